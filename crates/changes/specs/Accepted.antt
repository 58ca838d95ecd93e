-- Demand 2, "each call answers as the AnchorHash of document 01 does: opening, seating, taking out". What an accepted call is: an accepted opening, or an accepted change of
-- the sound table that it finds; and it leaves a sound table.
use Rattle.std.specs.Prelude.{◌≡◌, List, [], ◌∷◌, ℕ, ◌<◌, ◌^◌}
use Rattle.rules.specs.Table.{◌!◌, table_of}
use Rattle.rules.specs.Changes.{opened}
use Rattle.rules.specs.History.{Opens, Change, taking, seating, Accepts, changed, Sound}
use Rattle.rules.specs.Asks.{Opening, Asks}
use Rattle.rules.specs.Answers.{done}
use Rattle.changes.specs.Calls.{open_call, seat_call, out_call}

-- an opening with a and ids leaves the words u
pub record IsOpening (a : ℕ) (ids u : List ℕ) : Type 0 where
  pub opens : Opens a ids
  pub asks : Opening a ids
  pub table : table_of u ≡ opened a ids
  pub sound : Sound u

abbrev pub OpenOpens : Type 0
OpenOpens = (w u : List ℕ) (a : ℕ) (ids vs : List ℕ) → ((i : ℕ) → ids ! i < 2 ^ 32) → open_call w a ids ≡ done vs u → IsOpening a ids u

-- from the words w the change c leaves v
pub record IsChange (c : Change) (w v : List ℕ) : Type 0 where
  pub accepts : Accepts (table_of w) c
  pub asks : Asks (table_of w) c
  pub table : table_of v ≡ changed (table_of w) c
  pub sound : Sound v

abbrev pub OutChanges : Type 0
OutChanges = (w v : List ℕ) (id b : ℕ) → Sound w → out_call w id ≡ done (b ∷ []) v → IsChange (taking id b) w v

abbrev pub SeatChanges : Type 0
SeatChanges = (w v : List ℕ) (id b : ℕ) → Sound w → id < 2 ^ 32 → seat_call w id ≡ done (b ∷ []) v → IsChange (seating id b) w v
