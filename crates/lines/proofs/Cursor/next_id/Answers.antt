-- `Cursor::next_id` meets its contract: an id is within its limit.
use Rattle.promises.proofs.Prelude.{sym, arith}
use Rattle.lines.specs.Lines.{most_id}
use Rattle.lines.proofs.Words.{next_got}
use Rattle.lines.proofs.Cursor.next_id.Goals as goal

pub overflow_cast-result : goal.overflow_cast-result
overflow_cast-result c = omega (arith, (next_got most_id _ (omega arith) (sym c.in-Some.ensures)).most)
