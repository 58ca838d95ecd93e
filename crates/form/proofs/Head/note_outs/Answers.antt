-- `form::Head::note_outs` meets its contract: no flag is set before the first.
use Rattle.promises.proofs.Prelude.{arith}
use Rattle.form.proofs.Told.{noted_none}
use Rattle.form.proofs.Head.note_outs.Goals as goal

pub loop-i-init : goal.loop-i-init
loop-i-init c = (c.removals-i-end.ensures, (λ i h. absurd (omega arith)), noted_none c.args.self.now _ c.requires)
