-- A store into a lent part is a store into the run.
use Rattle.promises.proofs.Prelude.{◌≡◌, List, ◌++◌, ℕ, ◌-◌, ◌+◌, arith, drop, set, take}
use Rattle.rules.specs.Table.{base}
use Rattle.rules.proofs.Parts.{part_put}
use Rattle.parts.specs.Shape.{Lent}

-- as a function that lends `&mut t[lo..lo + a]`, part k, to the store of v at i finds it
pub set_lent : (w ys : List ℕ) (lo a k i v : ℕ) → lo ≡ base a k → ys ≡ set (take (lo + a - lo) (drop lo w)) i v → Lent w a k i
    → take lo w ++ (ys ++ drop (lo + a - lo) (drop lo w)) ≡ set w (base a k + i) v
set_lent w ys lo a k i v at e l = rw (← at) (part_put w ys lo a i v e l.below (omega (arith, l.fits)))
