-- `ids::repeats_in` meets its contract. The loop's invariant: found so far, or in the rest, is found in all.
use Rattle.promises.proofs.Prelude.{◌≡◌, length}
use mathlib.Core.Bool.{◌||◌}
use Rattle.rules.specs.Ids.{repeats}
use Rattle.ids.proofs.repeats_in.Given as goal

abbrev pub invariant-loop-rest : goal.invariant-loop-rest
invariant-loop-rest l = (l.hit || repeats l.rest) ≡ repeats l.l

abbrev pub decreases-loop-rest : goal.decreases-loop-rest
decreases-loop-rest l = length l.rest
