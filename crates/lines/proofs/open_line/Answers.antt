-- `lines::open_line` meets its contract. The loop's invariant: the ids read so far, before those of the rest, are all ids.
use Rattle.promises.proofs.Prelude.{sym, ◌<◌, ◌∙◌, length, arith}
use Rattle.lines.specs.Lines.{most_id}
use Rattle.lines.proofs.Words.{next_got}
use Rattle.lines.proofs.Listing.{some_left, listing_none, listing_more, listing_ends, listing_breaks}
use Rattle.lines.proofs.open_line.Goals as goal
use Rattle.lines.proofs.open_line.Goals.{In-loop-c}

more : (c : In-loop-c) → 0 < length c.loop-c.c.rest.now
more c = some_left _ (sym c.is_empty.ensures ∙ c.loop-c-test.true)

pub loop-c-init : goal.loop-c-init
loop-c-init c = listing_none _ _ (omega (arith, (next_got most_id _ (omega arith) (sym c.in-Some.ensures)).shorter))

pub returns-in_default-next_id : goal.returns-in_default-next_id
returns-in_default-next_id c = listing_breaks c.loop-c.invariant _ c.in-Some.ensures (more (goal.at.returns-in_default-next_id c).In-loop-c) c.in_default-next_id.ensures

pub loop-c-smaller : goal.loop-c-smaller
loop-c-smaller c = omega (arith, (next_got most_id _ (omega arith) (sym c.in-Some-next_id.ensures)).shorter)

pub loop-c-preserved : goal.loop-c-preserved
loop-c-preserved c = listing_more c.loop-c.invariant (more (goal.at.loop-c-preserved c).In-loop-c) _ _ c.in-Some-next_id.ensures

pub returns : goal.returns
returns c = listing_ends c.loop-c.invariant _ c.in-Some.ensures (sym c.is_empty.ensures ∙ c.loop-c-test.false)
