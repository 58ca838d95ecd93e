-- Demand 3: "So take any accepted history from an opening and strike each seating with the removal it answers: every word but the ids
-- is what the seatings and removals left over make of that opening, taken as changes of seats with ids set aside, and each seat in use
-- holds the id last given to it."
use Rattle.std.specs.Prelude.{◌≡◌, cond, ℕ, ◌<◌, ◌^◌, length, eqb}
use mathlib.Core.List.{List, [], ◌∷◌, ◌++◌, reverse, Sublistᴰ}
use Rattle.rules.specs.Table.{◌!◌, Bare, Table, table_of}
use Rattle.rules.specs.Changes.{opened, last_out, Leaves}
use Rattle.rules.specs.History.{Opens, Change, taking, seating, run, Accepted}
use Rattle.rules.specs.Keys.{move, moved}
use Rattle.rules.specs.Answers.{done}
use Rattle.changes.specs.Calls.{open_call, seat_call, out_call}

-- What is left of a history, oldest first, read from its start. `over` are the seatings left over so far, and `unanswered` the removals
-- not answered so far, the latest first. A seating answers the latest of these, and both are struck; with none it is left over.
abbrev pub struck : (over unanswered : List Change) → List Change → List Change
struck over unanswered [] = over ++ reverse unanswered
struck over unanswered (taking id b ∷ h) = struck over (taking id b ∷ unanswered) h
struck over (removal ∷ unanswered) (seating id b ∷ h) = struck over unanswered h
struck over [] (seating id b ∷ h) = struck (over ++ (seating id b ∷ [])) [] h

abbrev pub strike : List Change → List Change
strike h = struck [] [] h

-- changes of seats, oldest first, with ids set aside
abbrev pub reseat : Bare → List Change → Bare
reseat T [] = T
reseat T (c ∷ h) = reseat (moved T (move c)) h

-- each of them allowed in its turn: the seat that leaves is in use, and not the only one; the seat that returns is the last one out
abbrev pub Allows : Bare → Change → Type 0
Allows T (taking id b) = Leaves T b
Allows T (seating id b) = (T.used < T.seats) × (last_out T ≡ b)

pub data Allowed : Bare → List Change → Type 0 where
  none : {T : Bare} → Allowed T []
  more : {T : Bare} {c : Change} {h : List Change} → Allows T c → Allowed (moved T (move c)) h → Allowed T (c ∷ h)

-- the id last given to seat x: `id` before the history, and what its seatings gave
abbrev pub last_given : ℕ → ℕ → List Change → ℕ
last_given x id [] = id
last_given x id (taking old b ∷ h) = last_given x id h
last_given x id (seating new b ∷ h) = last_given x (cond (eqb b x) new id) h

-- read as `struck` reads it: a seating fills the seat of the removal that it is struck with
pub data Answers : (unanswered : List Change) → List Change → Type 0 where
  read : {unanswered : List Change} → Answers unanswered []
  removal : {id b : ℕ} {unanswered h : List Change} → Answers (taking id b ∷ unanswered) h → Answers unanswered (taking id b ∷ h)
  answer : {old id b : ℕ} {unanswered h : List Change} → Answers unanswered h → Answers (taking old b ∷ unanswered) (seating id b ∷ h)
  alone : {id b : ℕ} {h : List Change} → Answers [] h → Answers [] (seating id b ∷ h)

-- the history h of the opening with a and ids left the table T
pub record Struck (a : ℕ) (ids : List ℕ) (h : List Change) (T : Table) : Type 0 where
  -- every word but the ids
  pub bare : T.bare ≡ reseat (opened a ids).bare (strike h)
  -- the ids; opening gave seat x id x of the list
  pub held : (x : ℕ) → x < a → T.bare.A ! x ≡ 0 → T.S ! x ≡ last_given x (ids ! x) h
  -- striking leaves changes out and keeps the others in their order, these are changes of seats that the opening allows, and a seating is struck with a removal of its seat
  pub fewer : Sublistᴰ (strike h) h
  pub allowed : Allowed (opened a ids).bare (strike h)
  pub answers : Answers [] h

abbrev pub Histories : Type 0
Histories = (a : ℕ) (ids : List ℕ) (h : List Change) → Opens a ids → Accepted (opened a ids) h → Struck a ids h (run (opened a ids) h)

-- The same of the calls. From the words w to the words v, each call accepted, with the seat of its change for an answer:
pub data Calls : List ℕ → List Change → List ℕ → Type 0 where
  end : {w : List ℕ} → Calls w [] w
  out : {id b : ℕ} {w u v : List ℕ} {h : List Change} → out_call w id ≡ done (b ∷ []) u → Calls u h v → Calls w (taking id b ∷ h) v
  seat : {id b : ℕ} {w u v : List ℕ} {h : List Change} → id < 2 ^ 32 → seat_call w id ≡ done (b ∷ []) u → Calls u h v → Calls w (seating id b ∷ h) v

abbrev pub HistoriesOfCalls : Type 0
HistoriesOfCalls =
    (a : ℕ) (ids w u v : List ℕ) (h : List Change) → ((i : ℕ) → ids ! i < 2 ^ 32) → open_call w a ids ≡ done (length ids ∷ []) u → Calls u h v
    → Struck a ids h (table_of v)
