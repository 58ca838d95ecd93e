-- Demand 3: "And with definition 2's lookup: taking a server out moves only keys that were on its seat, and seating one moves
-- keys only to its seat."
use Rattle.std.specs.Prelude.{◌≡◌, ◌≢◌, ◌⊎◌, ℕ}
use Rattle.rules.specs.Table.{Table}
use Rattle.rules.specs.Changes.{take_out, seat_id}
use Rattle.rules.specs.History.{Takes, Seats, Reached}
use Rattle.rules.specs.Keys.{Looked, found, on, array_rule}

-- a key's answer with seat b in use, and its answer with b out of use
pub record OnlyOn (b : ℕ) (with without : Looked) : Type 0 where
  -- they are the same, or the key is on b
  pub either : (without ≡ with) ⊎ ((d walks : ℕ) × (with ≡ found (on b d) walks))
  -- so a key that is on another seat keeps its seat, its draws and its walks
  pub others : (x d walks : ℕ) → x ≢ b → with ≡ found (on x d) walks → without ≡ found (on x d) walks

-- b is in use before it is taken out
abbrev pub TakingOutKeeps : Type 0
TakingOutKeeps =
    (T : Table) (id b : ℕ) (pick : ℕ → ℕ → ℕ) (first : ℕ) → Reached T → Takes T id b
    → OnlyOn b (array_rule T.bare pick first) (array_rule (take_out T b).bare pick first)

-- b is in use after the seating
abbrev pub SeatingKeeps : Type 0
SeatingKeeps =
    (T : Table) (id b : ℕ) (pick : ℕ → ℕ → ℕ) (first : ℕ) → Reached T → Seats T id b
    → OnlyOn b (array_rule (seat_id T id).bare pick first) (array_rule T.bare pick first)
