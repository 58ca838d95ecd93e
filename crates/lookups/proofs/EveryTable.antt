-- Document 01's hash is one of the draws that the theorems speak of, since a remainder is below what it is divided by.
use Rattle.promises.proofs.Prelude.{ℕ, ◌<◌}
use native.Mathlib.Nat.{mod-lt}
use Rattle.rules.specs.Keys.{hash₁, hash, first_of, pick_of}
use Rattle.lookups.specs.EveryTable.{Draws}

pub first_below : (k a : ℕ) → 0 < a → first_of k a < a
first_below k a h = mod-lt (hash₁ k) h

pub hash_draws : (k : ℕ) → Draws (pick_of k)
hash_draws k b n h = mod-lt (hash b k) h
