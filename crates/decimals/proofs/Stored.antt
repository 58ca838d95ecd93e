-- Bytes stored one after the other.
use Rattle.promises.proofs.Prelude.{◌≡◌, refl, List, [], ◌∷◌, ◌++◌, ℕ, ◌<◌, ◌+◌, arith, length, drop, set, length-append, take, length-take-le}
use Rattle.promises.proofs.Prelude.{take_at}
use lib.Seq.{length-sets, sets-eq, drop_at}
use Rattle.rules.proofs.Lists.{sets_append}
use Rattle.decimals.specs.Places.{Put}

pub put_length : {l₀ l₁ : List ℕ} {at to : ℕ} {bs : List ℕ} → Put bs at l₀ (to, l₁) → length l₁ ≡ length l₀
put_length p = rw (p.bytes, length-sets)

pub put_byte : (l : List ℕ) (at b : ℕ) → at < length l → Put (b ∷ []) at l (at + 1, set l at b)
put_byte l at b h = record { fits = omega arith; next = refl; bytes = refl }

-- a store, and a store behind it
pub put_then : {l₀ l₁ l₂ : List ℕ} {at mid to : ℕ} {xs ys : List ℕ} → Put xs at l₀ (mid, l₁) → Put ys mid l₁ (to, l₂) → Put (xs ++ ys) at l₀ (to, l₂)
put_then {xs = xs} {ys = ys} p q =
    let long = length-append xs ys in
    record { fits = omega (arith, put_length p); next = omega arith; bytes = rw (q.bytes, p.bytes, p.next, sets_append) }

-- what stands before the next place, and behind it
module _ {l₀ l₁ : List ℕ} {at to : ℕ} {bs : List ℕ} (p : Put bs at l₀ (to, l₁)) where
  split : l₁ ≡ (take at l₀ ++ bs) ++ drop to l₀
  split = rw (p.bytes, p.next, sets-eq bs l₀ at p.fits)

  front : length (take at l₀ ++ bs) ≡ to
  front = omega (arith, length-append (take at l₀) bs, length-take-le at l₀ (omega arith))

  pub put_front : take to l₁ ≡ take at l₀ ++ bs
  put_front = rw split (take_at _ _ to front)

  pub put_behind : drop to l₁ ≡ drop to l₀
  put_behind = rw split (drop_at (take at l₀ ++ bs) _ to front)
