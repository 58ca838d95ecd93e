-- Document 01, 'Finding a key', on every sound table, by every history that leaves it, and for every key. What a key draws is a first seat,
-- and a position at each redraw, whatever the hash.
use Rattle.std.specs.Prelude.{ℕ, ◌<◌}
use Rattle.rules.specs.Table.{Table}
use Rattle.rules.specs.History.{Reached}
use Rattle.rules.specs.Keys.{Found, Looked, moves_of, set_rule, array_rule}

-- the position drawn at seat b among n is one of the n
abbrev pub Draws : (ℕ → ℕ → ℕ) → Type 0
Draws pick = (b n : ℕ) → 0 < n → pick b n < n

-- P holds of every table, of what the array rule says there of a key, and of what the set rule finds on any opening and any accepted
-- changes that leave the table
abbrev pub EveryTable : (Table → Looked → Found → Type 0) → Type 0
EveryTable P =
    (T : Table) (r : Reached T) (pick : ℕ → ℕ → ℕ) (first : ℕ) → Draws pick → first < T.bare.seats
    → P T (array_rule T.bare pick first) (set_rule T.bare (moves_of r.a r.ids r.history) pick first)
