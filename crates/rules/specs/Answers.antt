-- Document 01, 'Numbers a call can answer', and request 1/13's number.
use Rattle.std.specs.Prelude.{◌≡◌, Bool, false, cond, List, [], ◌∷◌, ℕ, Result, Ok, Err}
use Rattle.rules.specs.declared.Refusal.{Refusal}
use Rattle.rules.specs.declared.Refusal.TheVariants.{Size, Count, Id, Twice, Damaged, Full, Absent, Last, Room, Form, Packet}

-- SIZE: the run's length or a is not a table's. COUNT: no id, or more than seats. ID: an id is 0. TWICE: an id is there already. DAMAGED: the table is
-- not sound, or a lookup is lost in it. FULL: no seat is free. ABSENT: the id is not seated. LAST: the only server. ROOM: the output is too short, or a key's is not eight bytes.
-- FORM: the bytes are no record. PACKET: the bytes are no packet whose key can be made. 11 is the line program's own.
abbrev pub number_of : Refusal → ℕ
number_of Size = 1
number_of Count = 2
number_of Id = 3
number_of Twice = 4
number_of Damaged = 5
number_of Full = 6
number_of Absent = 7
number_of Last = 8
number_of Room = 9
number_of Form = 10
number_of Packet = 12

-- a call's number and its values
pub record Answer : Type 0 where
  pub number : ℕ
  pub values : List ℕ

-- the call is done
abbrev pub fine : List ℕ → Answer
fine vs = record { number = 0; values = vs }

-- a refusal answers its number with no other value
abbrev pub refused : Refusal → Answer
refused r = record { number = number_of r; values = [] }

-- the number and the values of a call's result: `values` are those of what it gives where it is done
abbrev pub result_answer : {A : Type 0} → (A → List ℕ) → Result A Refusal → Answer
result_answer values (Ok a) = fine (values a)
result_answer values (Err r) = refused r

-- what a call leaves: its answer, and the lent words or bytes after it
pub record Outcome : Type 0 where
  pub answer : Answer
  pub after : List ℕ

abbrev pub outcome : Answer → List ℕ → Outcome
outcome x w = record { answer = x; after = w }

-- the promise of a function whose result r `answer` reads: its number and values are x's
abbrev pub Says : {R : Type 0} → (R → Answer) → Answer → R → Type 0
Says answer x r = answer r ≡ x

-- and where words or bytes are lent for writing: the result, and these after it
abbrev pub Results : {R : Type 0} → (R → Answer) → Outcome → R × List ℕ → Type 0
Results answer x o = outcome (answer o.0) o.1 ≡ x

-- a refusal leaves all lent memory unchanged
abbrev pub refused_at : List ℕ → Refusal → Outcome
refused_at w r = record { answer = refused r; after = w }

abbrev pub done : List ℕ → List ℕ → Outcome
done vs w = record { answer = fine vs; after = w }

infix 70 ◌⇒◌
-- when a refusal applies
pub data Occasion : Type 0 where
  ◌⇒◌ : Bool → Refusal → Occasion

-- the first that applies, in this order; else the call is done
abbrev pub first_that {ℓ} : {X : Type ℓ} → List Occasion → (Refusal → X) → X → X
first_that [] refuse x = x
first_that ((applies ⇒ r) ∷ os) refuse x =
    let more = first_that os refuse x in
    cond applies (refuse r) more

-- none of them applies
pub data Free : List Occasion → Type 0 where
  none : Free []
  more : {applies : Bool} {r : Refusal} {os : List Occasion} → applies ≡ false → Free os → Free ((applies ⇒ r) ∷ os)
