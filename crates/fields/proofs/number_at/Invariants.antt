-- `fields::number_at` meets its contract. The loop's invariant: x is the number that stands in the bytes before this one.
use Rattle.promises.proofs.Prelude.{◌≡◌}
use Rattle.fields.specs.Numbers.{number_at}
use Rattle.fields.proofs.number_at.Given as goal

abbrev pub invariant-loop-byte : goal.invariant-loop-byte
invariant-loop-byte l = l.x ≡ number_at l.s l.at l.byte-index
