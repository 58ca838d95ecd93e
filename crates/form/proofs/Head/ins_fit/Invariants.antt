-- `form::Head::ins_fit` meets its contract. The loop's invariant: the records of the seats below b fit, and j of these are in use.
use Rattle.promises.proofs.Prelude.{◌≡◌}
use Rattle.saved.specs.Reader.{rank}
use Rattle.saved.specs.Fits.{AllIn}
use Rattle.form.specs.Heads.{removals}
use Rattle.form.proofs.Head.ins_fit.Given as goal

abbrev pub invariant-loop-b : goal.invariant-loop-b
invariant-loop-b l = (l.j ≡ rank l.gone l.b) × AllIn l.self.form l.self.bytes.now (removals l.self) l.gone l.b
