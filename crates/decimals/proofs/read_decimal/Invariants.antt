-- `decimals::read_decimal` meets its contract. The loop's invariant: the digits of the rest, behind those of v, are all of the number.
use Rattle.promises.proofs.Prelude.{◌≡◌, length}
use Rattle.decimals.specs.Decimal.{digits, number}
use Rattle.decimals.proofs.read_decimal.Given as goal

abbrev pub invariant-loop-d : goal.invariant-loop-d
invariant-loop-d l = digits l.end l.lim l.v l.rest ≡ number l.end l.lim l.fn.s

abbrev pub decreases-loop-d : goal.decreases-loop-d
decreases-loop-d l = length l.rest
