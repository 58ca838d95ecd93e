-- `ids::find_in` meets its contract: the library's `position` is the place, where there is one.
use Rattle.std.proofs.lemmas.Iterator.{YieldsList-from_slice}
use Rattle.std.proofs.lemmas.Iterator.Search.{position_from_yields_List}
use borrow.Author.Tests.{tests}
use Rattle.promises.proofs.Prelude.{◌∙◌, eqb, rules}
use Rattle.ids.proofs.Scans.{place_found}
use Rattle.ids.proofs.find_in.Goals as goal

pub returns : goal.returns
returns c =
    position_from_yields_List (λ x. eqb x c.args.id) _ _ _ c.position.ensures.ran (YieldsList-from_slice c.args.l.now cc) (λ x b q k. search (rules, tests))
    ∙ place_found c.args.id c.args.l.now
