-- Document 01, 'How tight the contracts are' and 'Errors we have met or nearly made': hollow versions, and why each does not meet the promises. A promise
-- is an equation between a call's outcome and the definition of that call, so an outcome that the definition does not have is shut out.
use Rattle.std.specs.Prelude.{◌≡◌, List, [], ◌∷◌, ◌≢◌, ℕ, ◌<◌, ◌^◌, replicate}
use Rattle.rules.specs.Table.{◌!◌, words, run_length, table_of}
use Rattle.rules.specs.Changes.{opened, last_out}
use Rattle.rules.specs.History.{Sound}
use Rattle.rules.specs.Keys.{first_of, pick_of, at, redraw}
use Rattle.rules.specs.Examples.{after, h3}
use Rattle.rules.specs.Answers.{fine, refused, refused_at, done}
use Rattle.rules.specs.declared.Refusal.{Refusal}
use Rattle.rules.specs.declared.Refusal.TheVariants.{Id as Zero}
use Rattle.audit.specs.Audit.{audit_call}
use Rattle.changes.specs.Calls.{open_call, seat_call, out_call}
use Rattle.find.specs.Find.{find_call}

-- one that refuses every call
abbrev pub RefusesAll : Type 0
RefusesAll = (w : List ℕ) (r : Refusal) → Sound w → (audit_call w ≢ refused r) × ((k : ℕ) → find_call w k ≢ refused r)

-- one whose changes do nothing
abbrev pub DoesNothing : Type 0
DoesNothing = (w : List ℕ) (id b : ℕ) → Sound w → (out_call w id ≢ done (b ∷ []) w) × (id < 2 ^ 32 → seat_call w id ≢ done (b ∷ []) w)

-- one that seats elsewhere than in the last seat out, as in the lowest free one
abbrev pub SeatsElsewhere : Type 0
SeatsElsewhere = (w v : List ℕ) (id b : ℕ) → Sound w → id < 2 ^ 32 → b ≢ last_out (table_of w).bare → seat_call w id ≢ done (b ∷ []) v

-- one that seats an id that is seated already
abbrev pub SeatsTwice : Type 0
SeatsTwice = (w v : List ℕ) (id b x : ℕ) → Sound w → id < 2 ^ 32 → x < w ! 0 → (table_of w).S ! x ≡ id → seat_call w id ≢ done (b ∷ []) v

-- one that takes another server out; one that leaves the id in its seat
abbrev pub TakesAnother : Type 0
TakesAnother = (w v : List ℕ) (id b : ℕ) → Sound w → (table_of w).S ! b ≢ id → out_call w id ≢ done (b ∷ []) v

abbrev pub KeepsId : Type 0
KeepsId = (w v : List ℕ) (id b : ℕ) → Sound w → (table_of v).S ! b ≡ id → out_call w id ≢ done (b ∷ []) v

-- one that looks for a double before it looks for a 0: three seats, and the list 0 5 5
abbrev pub ZeroFirst : Type 0
ZeroFirst = open_call (replicate (run_length 3) 0) 3 (0 ∷ 5 ∷ 5 ∷ []) ≡ refused_at (replicate (run_length 3) 0) Zero

-- seven seats, the servers 11, 12 and 13
abbrev pub seven : List ℕ
seven = words (opened 7 (11 ∷ 12 ∷ 13 ∷ []))

-- one that finds the same seat for every key; one that makes the first redraw properly and then takes any seat in use; one with draws from nowhere: two
-- keys, on two seats, after three redraws and after two
abbrev pub TwoKeys : Type 0
TwoKeys = (find_call seven 17 ≡ fine (2 ∷ 13 ∷ 4 ∷ 0 ∷ [])) × (find_call seven 2 ≡ fine (1 ∷ 12 ∷ 3 ∷ 0 ∷ []))

-- one that reads today's W on a redraw: in E3's state key 10 comes to seat 1, and draws position 1. Today seat 2 stands there; it was seat 4 after seat 1
-- left, and the key goes on to seat 3
abbrev pub TodaysLine : Type 0
TodaysLine =
    (first_of 10 7 ≡ 1) × (pick_of 10 1 ((after 7 h3).bare.A ! 1) ≡ 1) × ((after 7 h3).bare.W ! 1 ≡ 2)
    × (find_call (words (after 7 h3)) 10 ≡ fine (3 ∷ 14 ∷ 3 ∷ 2 ∷ []))

-- Request 2/13: one whose walks are always 0; or the redraws; or the last redraw's follows alone; or one more for each redraw, where it begins. Two keys of
-- E3's state, on one seat with as many draws; the first follows K once from seat 1 and then twice from seat 4, the second never
abbrev pub OwnWalks : Type 0
OwnWalks =
    let T = (after 7 h3).bare in
    (first_of 19 7 ≡ 1) × (redraw T.A T.K (pick_of 19) 1 ≡ at 4 1) × (redraw T.A T.K (pick_of 19) 4 ≡ at 2 2)
    × (find_call (words (after 7 h3)) 19 ≡ fine (2 ∷ 13 ∷ 3 ∷ 3 ∷ [])) × (find_call (words (after 7 h3)) 48 ≡ fine (2 ∷ 13 ∷ 3 ∷ 0 ∷ []))
