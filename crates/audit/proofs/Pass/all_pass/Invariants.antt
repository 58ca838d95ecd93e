-- `audit::Pass::all_pass` meets its contract. The loop's invariant: what is below i is decided.
use Rattle.promises.proofs.Prelude.{◌≡◌}
use Rattle.promises.specs.Decides.{Decides}
use Rattle.audit.specs.Pass.{AllPass}
use Rattle.audit.specs.Reading.{table_in}
use Rattle.audit.proofs.Pass.all_pass.Given as goal

abbrev pub invariant-loop-i : goal.invariant-loop-i
invariant-loop-i l = (l.i-end ≡ l.self.run.seats) × Decides l.ok (AllPass (table_in l.self) l.i)
