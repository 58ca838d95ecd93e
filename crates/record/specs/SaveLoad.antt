-- Demand 2, "Saving and loading are exact opposites". Loading what saving wrote gives every word back: of each sound run w, into any run w' of its length, whatever the output held.
use Rattle.std.specs.Prelude.{◌≡◌, List, [], ◌∷◌, ℕ, ◌≤◌, length, take}
use Rattle.rules.specs.Table.{◌!◌}
use Rattle.rules.specs.History.{Sound}
use Rattle.rules.specs.Answers.{done}
use Rattle.saved.specs.Length.{record_length}
use Rattle.record.specs.Calls.{save_call, load_call}

pub record SavedLoaded (w out w' : List ℕ) (n : ℕ) : Type 0 where
  pub written : List ℕ
  pub saves : save_call w out ≡ done (n ∷ []) written
  pub loads : load_call w' (take n written) ≡ done (w ! 1 ∷ []) w

abbrev pub SaveLoad : Type 0
SaveLoad =
    (w out w' : List ℕ) → Sound w → record_length (w ! 0) (w ! 1) ≤ length out → length w' ≡ length w
    → SavedLoaded w out w' (record_length (w ! 0) (w ! 1))
