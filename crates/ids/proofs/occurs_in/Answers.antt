-- `ids::occurs_in` meets its contract: the library's `contains` looks for the same.
use Rattle.promises.proofs.Prelude.{◌∙◌, sym}
use Rattle.ids.proofs.Scans.{occurs_any}
use Rattle.ids.proofs.occurs_in.Goals as goal

pub returns : goal.returns
returns c = c.contains.ensures.value ∙ sym (occurs_any c.args.id c.args.l.now)
