-- `lines::command` meets its contract: what stands behind the word is within the line.
use Rattle.promises.proofs.Prelude.{arith}
use Rattle.lines.proofs.command.Goals as goal

pub open_line-requires : goal.open_line-requires
open_line-requires c = omega (arith, c.in-Some.ensures.within)
