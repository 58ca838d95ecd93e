-- `fields::put_number` meets its contract. The loop's invariant: of what is left the bytes before place i are still to be stored.
use Rattle.promises.proofs.Prelude.{◌≡◌, ◌-◌, sets}
use Rattle.fields.specs.Numbers.{bytes}
use Rattle.fields.proofs.put_number.Given as goal

abbrev pub invariant-loop-i : goal.invariant-loop-i
invariant-loop-i l = sets l.out l.at (bytes (l.i - l.at) l.left) ≡ sets l.initial.out l.at (bytes l.width l.x)
