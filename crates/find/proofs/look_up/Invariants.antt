-- `find::look_up` meets its contract and ends: a redraw leads to a seat with a smaller A, on any table. So fewer seats have a smaller
-- A still, the draws are at most a, and 32 bits hold the walks.
use Rattle.promises.proofs.Prelude.{◌≡◌}
use Rattle.rules.specs.Table.{◌!◌}
use Rattle.rules.specs.Keys.{pick_of, lookup}
use Rattle.find.proofs.Redraws.{SoFar}
use Rattle.find.proofs.look_up.Given as goal

abbrev pub invariant-loop-b : goal.invariant-loop-b
invariant-loop-b l =
    SoFar l.A l.b.0 l.draws l.walks × (lookup l.A l.K (pick_of l.key) (l.A ! l.b.0) l.draws l.walks l.b.0 ≡ lookup l.A l.K (pick_of l.key) (l.A ! l.initial.b.0) 1 0 l.initial.b.0)

abbrev pub decreases-loop-b : goal.decreases-loop-b
decreases-loop-b l = l.A ! l.b.0
