-- `record::Record::take_all` meets its contract. The loop's invariant: the run holds the table after i removals.
use Rattle.promises.proofs.Prelude.{◌≡◌}
use Rattle.steps.specs.Steps.{Keeps}
use Rattle.record.specs.Loading.{removals, HoldsAfter}
use Rattle.record.proofs.Record.take_all.Given as goal

abbrev pub invariant-loop-i : goal.invariant-loop-i
invariant-loop-i l = (l.i-end ≡ removals l.self) × HoldsAfter l.self l.run l.i × Keeps l.fn.run l.run
