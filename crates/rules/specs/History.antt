-- Document 01, 'Changes' and 'Numbers a call can answer': an opening, a run of accepted changes, and what is sound. What refuses a change is
-- said here once, for the histories and for the calls; what a call asks of its run besides, SIZE and DAMAGED, is said with the call.
use Rattle.std.specs.Prelude.{◌≡◌, not, List, [], ◌∷◌, ◌≢◌, ℕ, ◌<◌, ◌^◌, length, ltb, eqb}
use Rattle.rules.specs.Table.{◌!◌, Table, words, most_seats}
use Rattle.rules.specs.Changes.{opened, last_out, take_out, seat_id}
use Rattle.rules.specs.Ids.{occurs, repeats, place_of}
use Rattle.rules.specs.Answers.{Occasion, ◌⇒◌, Free}
use Rattle.rules.specs.declared.Refusal.TheVariants.{Size, Count, Id as Zero, Twice, Full, Absent, Last}

-- a server's id
abbrev pub Id : ℕ → Type 0
Id id = (id ≢ 0) × (id < 2 ^ 32)

-- The refusals of a list of ids for a seats: COUNT where it has no id, or more than seats; ID where one is 0; TWICE where one occurs twice. Of an
-- opening with both: SIZE where a is not from 1 to 2,048, and then the list's.
abbrev pub list_refusals : ℕ → List ℕ → List Occasion
list_refusals a ids =
    ltb (length ids) 1 ⇒ Count
    ∷ ltb a (length ids) ⇒ Count
    ∷ occurs 0 ids ⇒ Zero
    ∷ repeats ids ⇒ Twice
    ∷ []

abbrev pub open_refusals : ℕ → List ℕ → List Occasion
open_refusals a ids =
    ltb a 1 ⇒ Size
    ∷ ltb most_seats a ⇒ Size
    ∷ list_refusals a ids

-- Taking an id out: ID where it is 0, ABSENT where no seat has it, LAST where it is the only one seated
abbrev pub out_refusals : Table → ℕ → List Occasion
out_refusals T id =
    eqb id 0 ⇒ Zero
    ∷ not (occurs id T.S) ⇒ Absent
    ∷ eqb T.bare.used 1 ⇒ Last
    ∷ []

-- Seating an id: ID where it is 0, TWICE where a seat has it, FULL where every seat is in use
abbrev pub seat_refusals : Table → ℕ → List Occasion
seat_refusals T id =
    eqb id 0 ⇒ Zero
    ∷ occurs id T.S ⇒ Twice
    ∷ eqb T.bare.used T.bare.seats ⇒ Full
    ∷ []

-- opening accepts a and this list
pub record Opens (a : ℕ) (ids : List ℕ) : Type 0 where
  pub free : Free (open_refusals a ids)
  pub each : (i : ℕ) → i < length ids → ids ! i < 2 ^ 32

-- a change, and the seat that its call answered
pub data Change : Type 0 where
  taking : (id b : ℕ) → Change
  seating : (id b : ℕ) → Change

-- taking out accepts the id, and answers its seat b
pub record Takes (T : Table) (id b : ℕ) : Type 0 where
  pub free : Free (out_refusals T id)
  pub is_place : place_of id T.S ≡ b

-- seating accepts the id, and answers b, the last seat out
pub record Seats (T : Table) (id b : ℕ) : Type 0 where
  pub free : Free (seat_refusals T id)
  pub small : id < 2 ^ 32
  pub is_last : last_out T.bare ≡ b

abbrev pub Accepts : Table → Change → Type 0
Accepts T (taking id b) = Takes T id b
Accepts T (seating id b) = Seats T id b

abbrev pub changed : Table → Change → Table
changed T (taking id b) = take_out T b
changed T (seating id b) = seat_id T id

-- a run of changes, oldest first
abbrev pub run : Table → List Change → Table
run T [] = T
run T (c ∷ h) = run (changed T c) h

-- each of them accepted in its turn
pub data Accepted : Table → List Change → Type 0 where
  done : {T : Table} → Accepted T []
  then : {T : Table} {c : Change} {h : List Change} → Accepts T c → Accepted (changed T c) h → Accepted T (c ∷ h)

-- a table that some opening, followed by some run of accepted changes, leaves
pub record Reached (T : Table) : Type 0 where
  pub a : ℕ
  pub ids : List ℕ
  pub opens : Opens a ids
  pub history : List Change
  pub accepted : Accepted (opened a ids) history
  pub leaves : run (opened a ids) history ≡ T

-- sound words
pub record Sound (w : List ℕ) : Type 0 where
  pub table : Table
  pub reached : Reached table
  pub is_words : words table ≡ w
