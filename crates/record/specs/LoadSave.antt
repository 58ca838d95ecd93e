-- Demand 2, "Saving and loading are exact opposites". Saving what loading built gives every byte back: of each record s, through any run w of its table's length, whatever that held.
use Rattle.std.specs.Prelude.{◌≡◌, List, [], ◌∷◌, ◌++◌, ℕ, ◌≤◌, length, drop}
use Rattle.rules.specs.Table.{run_length}
use Rattle.rules.specs.Answers.{done}
use Rattle.saved.specs.Record.{IsRecord}
use Rattle.record.specs.Calls.{save_call, load_call}

pub record LoadedSaved (s w out : List ℕ) (n : ℕ) : Type 0 where
  pub built : List ℕ
  pub loads : load_call w s ≡ done (n ∷ []) built
  pub saves : save_call built out ≡ done (length s ∷ []) (s ++ drop (length s) out)

abbrev pub LoadSave : Type 0
LoadSave =
    (s w out : List ℕ) (r : IsRecord s) → length w ≡ run_length r.table.bare.seats → length s ≤ length out
    → LoadedSaved s w out r.table.bare.used
