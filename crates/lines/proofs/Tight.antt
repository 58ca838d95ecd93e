-- The promise of `command` leaves one outcome.
use Rattle.promises.proofs.Prelude.{List, ℕ}
use Rattle.promises.specs.One.{One}
use Rattle.lines.specs.Lines.{Command}
use Rattle.lines.specs.Readings.{IsLine}

pub one_line : (x : Command × List ℕ) (before : List ℕ) → One (IsLine x before)
one_line x before (r, into) (q, onto) h k = cc
