-- What the methods of a good head tell, in the words of crate `saved`'s Fits.
use Rattle.std.specs.Prelude.{◌≡◌, Option, Some, None, Bool, true, false, List, ℕ, ◌+◌, ◌-◌}
use Rattle.rules.specs.Table.{Bare}
use Rattle.fields.specs.declared.Form.{Form}
use Rattle.saved.specs.Reader.{bare_from}
use Rattle.saved.specs.Fits.{HeadFits, OutFits, AllOut}
use Rattle.form.specs.declared.Head.{Head}
use Rattle.form.specs.Tests.{Noted}

abbrev pub HeadTold : Form → List ℕ → Option Head → Type 0
HeadTold f s (Some h) = (h.form ≡ f) × (h.bytes.now ≡ s)
HeadTold f s None = (a n : ℕ) → HeadFits f s a n → ⊥

abbrev pub removals : Head → ℕ
removals h = h.seats - h.used

-- the table before removal i, and flags that note the seats which left before
abbrev pub bare_at : Head → ℕ → Bare
bare_at h i = bare_from h.form h.bytes.now h.seats (removals h) i

abbrev pub Noting : Head → ℕ → List ℕ → Type 0
Noting h i flags = Noted (bare_at h i).A flags h.seats

-- removal i fits and is noted, or it does not fit; and so all of them
abbrev pub OutTold : Head → ℕ → Bool → List ℕ → Type 0
OutTold h i true flags = OutFits h.form h.bytes.now h.seats (removals h) i × Noting h (i + 1) flags
OutTold h i false flags = OutFits h.form h.bytes.now h.seats (removals h) i → ⊥

abbrev pub OutsTold : Head → Bool → List ℕ → Type 0
OutsTold h true flags = AllOut h.form h.bytes.now h.seats (removals h) (removals h) × Noting h (removals h) flags
OutsTold h false flags = AllOut h.form h.bytes.now h.seats (removals h) (removals h) → ⊥
