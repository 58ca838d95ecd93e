-- The walk that is left is the whole walk, and at each turn K may be followed once less.
use Rattle.promises.proofs.Prelude.{◌≡◌, ◌+◌, ◌-◌}
use Rattle.rules.specs.Keys.{walk}
use Rattle.find.proofs.Turns.{rest}
use Rattle.find.proofs.follow.Given as goal

abbrev pub invariant-loop-n : goal.invariant-loop-n
invariant-loop-n l = rest l.A l.K l.m (l.a + 1 - l.n) l.n l.h.0 ≡ walk l.A l.K l.m l.a 0 l.from

abbrev pub decreases-loop-n : goal.decreases-loop-n
decreases-loop-n l = l.a + 1 - l.n
