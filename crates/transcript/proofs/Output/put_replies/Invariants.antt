-- `Output::put_replies` meets its contract. The loop's invariant: what is printed, before the answers to the lines that are left, is the whole.
use Rattle.promises.proofs.Prelude.{length}
use Rattle.lines.specs.Lines.{lines_of}
use Rattle.transcript.specs.Replies.{lines_left}
use Rattle.transcript.proofs.Turns.{So}
use Rattle.transcript.proofs.Output.put_replies.Given as goal

abbrev pub invariant-loop-line : goal.invariant-loop-line
invariant-loop-line l =
    (goal.iterator-loop-line).can_next l.line-iterator
    × (goal.iterator-loop-line).is_finite l.line-iterator
    × So (length l.fn.input) (lines_of l.fn.input) l.fn.self l.self l.table (lines_left l.line-iterator)
