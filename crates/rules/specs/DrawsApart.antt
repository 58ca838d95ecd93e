-- Request 3/13: "The first hash and seat 0's redraw are the same output", and shall not be. No two draws of a key are: their numbers are 1 and, at seat b,
-- b + 2, and outputs with different numbers below 2^64 differ, whatever the key.
use Rattle.std.specs.Prelude.{◌≢◌, ℕ, ◌<◌, ◌+◌, ◌^◌}
use Rattle.rules.specs.Keys.{hash₁, hash}

-- the first draw and the one at a seat
abbrev pub FirstApart : Type 0
FirstApart = (k b : ℕ) → b + 2 < 2 ^ 64 → hash₁ k ≢ hash b k

-- the draws at two seats
abbrev pub SeatsApart : Type 0
SeatsApart = (k b c : ℕ) → b + 2 < 2 ^ 64 → c + 2 < 2 ^ 64 → b ≢ c → hash b k ≢ hash c k
