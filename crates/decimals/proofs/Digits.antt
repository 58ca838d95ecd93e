-- Numbers, a byte at a time.
use Rattle.promises.proofs.Prelude.{◌≡◌, true, ◌&&◌, List, ◌∷◌, ℕ, ◌≤◌, ◌<◌, ◌+◌, add-one, arith, length, drop}
use Rattle.promises.proofs.Prelude.{le-leb}
use lib.Seq.{drop-cons}
use lib.Dec.{leb}
use borrow.Author.Tests.{leb-true}
use Rattle.promises.proofs.Decided.{both}
use Rattle.rules.specs.Table.{◌!◌}
use Rattle.decimals.specs.Decimal.{is_digit, more, follows}

-- a byte, and the rest behind it
pub byte : (s : List ℕ) (i : ℕ) → i < length s → drop i s ≡ s ! i ∷ drop (i + 1) s
byte s i h = rw (add-one, drop-cons s i 0)

-- what the tests say

pub digit_true : (d : ℕ) → is_digit d ≡ true → (48 ≤ d) × (d ≤ 57)
digit_true d e = let h = both (leb 48 d) (leb d 57) e in (leb-true 48 d h.0, leb-true d 57 h.1)

pub true_digit : (k : ℕ) → k < 10 → is_digit (48 + k) ≡ true
true_digit k h = rw (le-leb 48 (48 + k) (omega arith), le-leb (48 + k) 57 (omega arith))

pub follows_true : (lim v d : ℕ) → follows lim v d ≡ true → (1 ≤ v) × (48 ≤ d) × (d ≤ 57) × (more v d ≤ lim)
follows_true lim v d e =
    let h = both (leb 1 v) (is_digit d && leb (more v d) lim) e in
    let k = both (is_digit d) (leb (more v d) lim) h.1 in
    (leb-true 1 v h.0, (digit_true d k.0).0, (digit_true d k.0).1, leb-true (more v d) lim k.1)
