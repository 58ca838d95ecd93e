-- What the tests of a record's bytes tell, in the words of crate `saved`'s Fits.
use Rattle.std.specs.Prelude.{◌≡◌, Option, Some, None, List, ◌↔◌, ℕ, ◌+◌, ◌*◌, ◌<◌, length}
use Rattle.rules.specs.Table.{◌!◌, most_seats}
use Rattle.fields.specs.declared.Form.{Form}
use Rattle.saved.specs.Fits.{Good}
use Rattle.form.specs.declared.Recorded.{Recorded}

abbrev pub FormTold : Form → List ℕ → Option Recorded → Type 0
FormTold f s (Some r) = Good f s r.seats r.used
FormTold f s None = (a n : ℕ) → Good f s a n → ⊥

-- a flag for each of the a seats: 0 where A is 0
pub record Noted (A flags : List ℕ) (a : ℕ) : Type 0 where
  pub size : length flags ≡ most_seats
  pub same : (x : ℕ) → x < a → (flags ! x ≡ 0) ↔ (A ! x ≡ 0)

-- four bytes as a number, and those at `at` from the last to the first
abbrev pub join : ℕ → ℕ → ℕ → ℕ → ℕ
join w x y z = ((w * 256 + x) * 256 + y) * 256 + z

abbrev pub backward_at : List ℕ → ℕ → ℕ
backward_at s at = join (s ! (at + 3)) (s ! (at + 2)) (s ! (at + 1)) (s ! at)
