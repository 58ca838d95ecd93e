-- `layout::lay_out` meets its contract: the ids stand in S last.
use Rattle.promises.proofs.Prelude.{rules}
use Rattle.rules.specs.Table.{part}
use Rattle.rules.specs.Changes.{open_s}
use Rattle.rules.proofs.Openings.{length_open_s, open_s_in, open_s_out}
use Rattle.layout.proofs.Filling.{laid_is}
use Rattle.layout.proofs.Laid.{part_long, laid_out}
use Rattle.layout.proofs.lay_out.Goals as goal

pub returns-clause-words : goal.returns-clause-words
returns-clause-words c =
    let a = c.args.run.now.seats in
    let w = c.args.run.now.words.now in
    let ids = c.args.ids.now in
    let S = laid_is (open_s a ids) (length_open_s a ids c.requires) (λ i x h p. search (rules, open_s_in a ids i, open_s_out a ids i)) c.lay_bare.ensures.keeps.seats c.lay.ensures.laid in
    laid_out a ids (part a 5 w) _ c.requires (part_long w a 5 (search (rules, c.args.run.now.shape.size))) (rw c.lay_bare.ensures.words at S)
