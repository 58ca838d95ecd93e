-- `audit::Pass::all_pass` meets its contract. The loop's invariant: what is below i is decided.
use Rattle.promises.proofs.Prelude.{rules}
use Rattle.promises.proofs.Decided.{decides_more}
use Rattle.audit.specs.Pass.{IndexPasses}
use Rattle.audit.proofs.Pass.all_pass.Goals as goal

pub loop-i-preserved : goal.loop-i-preserved
loop-i-preserved c =
    (search rules, decides_more (IndexPasses _) _ c.loop-i.ok c.index_passes-ok.result c.loop-i.invariant.1 c.index_passes-ok.ensures)
