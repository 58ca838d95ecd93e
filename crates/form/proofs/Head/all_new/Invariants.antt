-- `form::Head::all_new` meets its contract. The loop's invariant: of an odd number the first, and two for each turn, are looked at.
use Rattle.promises.proofs.Prelude.{◌+◌, ◌*◌, ◌%◌}
use Rattle.promises.specs.Decides.{Decides}
use Rattle.saved.specs.Fits.{AllNew}
use Rattle.form.specs.Heads.{removals}
use Rattle.form.proofs.Head.all_new.Given as goal

abbrev pub invariant-loop-k : goal.invariant-loop-k
invariant-loop-k l = Decides l.ok (AllNew l.self.form l.self.bytes.now (removals l.self) (l.self.used % 2 + 2 * l.k))
