-- Demand 2, "each call answers as the AnchorHash of document 01 does". An opening or a change that asks for what document 01 allows, in plain conditions, is not
-- refused, and leaves what the history says. That nothing else is accepted is `changes/specs/Accepted`.
use Rattle.std.specs.Prelude.{◌≡◌, List, [], ◌∷◌, ℕ, length}
use Rattle.rules.specs.Table.{words, run_length, table_of}
use Rattle.rules.specs.Changes.{opened}
use Rattle.rules.specs.History.{Change, taking, seating, changed, Sound}
use Rattle.rules.specs.Asks.{Opening, Asks}
use Rattle.rules.specs.Answers.{Outcome, done}
use Rattle.changes.specs.Calls.{open_call, seat_call, out_call}

-- in a run of the opening's length, whatever it held: the call answers the number of ids, and leaves the opening's words
abbrev pub AcceptsOpening : Type 0
AcceptsOpening = (w : List ℕ) (a : ℕ) (ids : List ℕ) → Opening a ids → length w ≡ run_length a → open_call w a ids ≡ done (length ids ∷ []) (words (opened a ids))

-- the call of a change, and the seat that it has to answer
abbrev pub call_of : List ℕ → Change → Outcome
call_of w (taking id b) = out_call w id
call_of w (seating id b) = seat_call w id

abbrev pub answered_seat : Change → ℕ
answered_seat (taking id b) = b
answered_seat (seating id b) = b

-- on sound words: the call answers the change's seat, and leaves the words of the table after the change
abbrev pub AcceptsChange : Type 0
AcceptsChange = (w : List ℕ) (c : Change) → Sound w → Asks (table_of w) c → call_of w c ≡ done (answered_seat c ∷ []) (words (changed (table_of w) c))
