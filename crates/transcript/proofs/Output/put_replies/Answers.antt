-- `Output::put_replies` meets its contract. The loop's invariant: what is printed, before the answers to the lines that are left, is the whole.
use Rattle.promises.proofs.Prelude.{refl, ap, ◌∷◌, arith, length}
use Rattle.lines.specs.Lines.{lines_of}
use Rattle.transcript.specs.Replies.{lines_left}
use Rattle.transcript.proofs.Turns.{So, so_begins, line_short, fits, so_more, so_ends}
use Rattle.transcript.proofs.Output.put_replies.Goals as goal
use Rattle.transcript.proofs.Output.put_replies.Goals.{In-Some}

-- with the line that is read first among those that are left
so : (c : In-Some) →
    let s = c.args.input.now in
    So (length s) (lines_of s) c.args.self.now c.loop-line.self c.loop-line.table (c.in-Some.line.now ∷ lines_left c.next.new.self)
so c = rw c.in-Some.ensures.steps at c.loop-line.invariant.2

pub loop-line-init : goal.loop-line-init
loop-line-init c = (tt, tt, so_begins _ _ _ (ap lines_left c.into_iter-line-iterator.ensures.into_iter_gives) refl c.requires.room)

pub answer-requires : goal.answer-requires
answer-requires c = omega (arith, line_short (so (goal.at.answer-requires c).In-Some), c.requires.short)

pub put_reply-requires : goal.put_reply-requires
put_reply-requires c = fits (so (goal.at.put_reply-requires c).In-Some) c.answer.ensures

pub loop-line-preserved : goal.loop-line-preserved
loop-line-preserved c = (tt, tt, so_more (so (goal.at.loop-line-preserved c).In-Some) c.answer.ensures c.put_reply.ensures)

pub returns : goal.returns
returns c = so_ends (rw c.in-None.ensures.steps.0 at c.loop-line.invariant.2)
