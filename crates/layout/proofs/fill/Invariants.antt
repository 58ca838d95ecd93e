-- `layout::fill` meets its contract. The loop's invariant: the first i words are filled.
use Rattle.promises.proofs.Prelude.{◌≡◌, length}
use Rattle.layout.specs.Layout.{Filling}
use Rattle.layout.proofs.fill.Given as goal

abbrev pub invariant-loop-i : goal.invariant-loop-i
invariant-loop-i g l = (l.word ≡ l.fn.word) × (l.i-end ≡ length l.fn.part) × Filling (goal.F-post g l.word) (length l.fn.part) l.i l.part
