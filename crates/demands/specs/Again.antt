-- For the buyer, in one line: take servers out, one after the other, and seat as many ids again, any ids: every key is on the seat that
-- it was on before.
use Rattle.std.specs.Prelude.{◌≡◌, List, [], ◌∷◌, ℕ, ◌<◌, ◌^◌, length}
use Rattle.rules.specs.History.{Sound}
use Rattle.rules.specs.Answers.{Outcome, done}
use Rattle.changes.specs.Calls.{seat_call, out_call}
use Rattle.demands.specs.Keys.{seat_for, draws_for, walks_for}

-- a call for each id, one after the other, each accepted: from the words w to the words v
pub data Each (call : List ℕ → ℕ → Outcome) : List ℕ → List ℕ → List ℕ → Type 0 where
  none : {w : List ℕ} → Each call [] w w
  more : {id b : ℕ} {ids w u v : List ℕ} → id < 2 ^ 32 → call w id ≡ done (b ∷ []) u → Each call ids u v → Each call (id ∷ ids) w v

-- and has as many draws and walks as before
abbrev pub Again : Type 0
Again =
    (servers ids w u v : List ℕ) → Sound w → Each out_call servers w u → Each seat_call ids u v → length ids ≡ length servers
    → (k : ℕ) → (seat_for v k ≡ seat_for w k) × (draws_for v k ≡ draws_for w k) × (walks_for v k ≡ walks_for w k)
