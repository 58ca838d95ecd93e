-- `fields::put_mark` meets its contract: the part that is written is as long as the mark.
use Rattle.fields.proofs.Numbers.{part_stored}
use Rattle.fields.proofs.put_mark.Goals as goal

pub returns : goal.returns
returns c = rw c.copy_from_slice.ensures.after (part_stored c.args.out.now c.args.at 2 c.args.mark.now c.told-mark c.requires)
