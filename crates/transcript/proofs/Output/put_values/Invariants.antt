-- `Output::put_values` meets its contract. The loop's invariant: the first numbers stand.
use Rattle.promises.proofs.Prelude.{take}
use Rattle.lines.specs.Lines.{spaced}
use Rattle.transcript.specs.Replies.{Adds}
use Rattle.transcript.proofs.Output.put_values.Given as goal

abbrev pub invariant-loop-v : goal.invariant-loop-v
invariant-loop-v l = Adds (spaced (take l.v-index l.values)) l.fn.self l.self
