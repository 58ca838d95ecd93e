-- `ids::repeats_in` meets its contract. The loop's invariant: found so far, or in the rest, is found in all.
use Rattle.promises.proofs.Prelude.{◌∙◌, sym}
use Rattle.ids.proofs.Scans.{repeats_more, repeats_none}
use Rattle.ids.proofs.repeats_in.Goals as goal

pub loop-rest-preserved : goal.loop-rest-preserved
loop-rest-preserved c = repeats_more c.loop-rest.hit c.again-hit.result c.loop-rest.rest.now c.in-len1-up.len_at_least c.again-hit.ensures ∙ c.loop-rest.invariant

pub returns : goal.returns
returns c = sym (repeats_none c.loop-rest.hit c.loop-rest.rest.now c.in_default.len_below) ∙ c.loop-rest.invariant
