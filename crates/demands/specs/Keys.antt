-- Demand 3: "And with definition 2's lookup: taking a server out moves only keys that were on its seat, and seating one moves keys only
-- to its seat." And what request 2/13 adds to find's answer, the walks.
use Rattle.std.specs.Prelude.{◌≡◌, List, [], ◌∷◌, ◌≢◌, ℕ, ◌+◌, ◌*◌, ◌-◌, ◌<◌, ◌≤◌, ◌^◌}
use Rattle.rules.specs.Table.{◌!◌, table_of}
use Rattle.rules.specs.History.{Reached, Sound}
use Rattle.rules.specs.Keys.{set_rule, moves_of, pick_of, first_of}
use Rattle.rules.specs.Answers.{fine, done}
use Rattle.changes.specs.Calls.{seat_call, out_call}
use Rattle.find.specs.Find.{find_call}

-- the seat, the server, the draws and the walks that find answers for the key k on the words w
abbrev pub seat_for : List ℕ → ℕ → ℕ
seat_for w k = (find_call w k).values ! 0

abbrev pub server_for : List ℕ → ℕ → ℕ
server_for w k = (find_call w k).values ! 1

abbrev pub draws_for : List ℕ → ℕ → ℕ
draws_for w k = (find_call w k).values ! 2

abbrev pub walks_for : List ℕ → ℕ → ℕ
walks_for w k = (find_call w k).values ! 3

-- on sound words find answers all four for every key
pub record Answered (w : List ℕ) (k : ℕ) : Type 0 where
  pub is_fine : find_call w k ≡ fine (seat_for w k ∷ server_for w k ∷ draws_for w k ∷ walks_for w k ∷ [])
  pub seat : seat_for w k < w ! 0
  pub server : server_for w k ≢ 0
  pub draws : draws_for w k ≤ 1 + (w ! 0 - w ! 1)
  -- "one redraw follows at most a-N times", and there are draws - 1 of them
  pub walks : walks_for w k ≤ (w ! 0 - w ! 1) * (draws_for w k - 1)

-- and seat, server and draws are those of the set rule, on whichever history left the words
abbrev pub BySets : Type 0
BySets =
    (w : List ℕ) (k : ℕ) (r : Reached (table_of w)) → Sound w
    → let f = set_rule (table_of w).bare (moves_of r.a r.ids r.history) (pick_of k) (first_of k (w ! 0)) in
    find_call w k ≡ fine (f.seat ∷ (table_of w).S ! f.seat ∷ f.draws ∷ walks_for w k ∷ [])

abbrev pub EveryKey : Type 0
EveryKey = (w : List ℕ) (k : ℕ) → Sound w → Answered w k

-- so with no seat out of use K is not followed
abbrev pub NoneOut : Type 0
NoneOut = (w : List ℕ) (k : ℕ) → Sound w → w ! 1 ≡ w ! 0 → walks_for w k ≡ 0

-- a server is taken out of seat b: every key that was on another seat keeps its whole answer
abbrev pub TakingOut : Type 0
TakingOut =
    (w v : List ℕ) (id b k : ℕ) → Sound w → out_call w id ≡ done (b ∷ []) v
    → seat_for w k ≢ b → find_call v k ≡ find_call w k

-- an id is seated in seat b: every key that is then on another seat keeps its whole answer
abbrev pub Seating : Type 0
Seating =
    (w v : List ℕ) (id b k : ℕ) → Sound w → id < 2 ^ 32 → seat_call w id ≡ done (b ∷ []) v
    → seat_for v k ≢ b → find_call v k ≡ find_call w k
