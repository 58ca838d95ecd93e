-- `fields::put_number` meets its contract: the last of the bytes that are left is stored first.
use Rattle.promises.proofs.Prelude.{◌≡◌, ◌∙◌, ◌-◌, ◌+◌, arith}
use Rattle.fields.proofs.Numbers.{bytes_stored}
use Rattle.fields.proofs.put_number.Goals as goal

pub loop-i-init : goal.loop-i-init
loop-i-init c = let n : c.args.at + c.args.width - c.args.at ≡ c.args.width = omega arith in rw n

pub loop-i-preserved : goal.loop-i-preserved
loop-i-preserved c = bytes_stored c.loop-i.out c.args.at c.loop-i.i c.loop-i.left (omega arith) ∙ c.loop-i.invariant

pub returns : goal.returns
returns c = let none : c.loop-i.i - c.args.at ≡ 0 = omega arith in rw none at c.loop-i.invariant
