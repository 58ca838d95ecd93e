-- `form::Head::all_new` meets its contract: a turn looks at two servers more.
use Rattle.promises.proofs.Prelude.{arith}
use Rattle.form.proofs.Told.{pair_more}
use Rattle.form.proofs.Head.all_new.Goals as goal

pub loop-k-preserved : goal.loop-k-preserved
loop-k-preserved c = pair_more c.args.self.now _ _ (omega arith) c.loop-k.ok c.two_new-ok.result c.loop-k.invariant c.two_new-ok.ensures
