-- `record::Record::put_servers` meets its contract. The loop's invariant: the seats below b have their servers, and j of them are in use.
use Rattle.promises.proofs.Prelude.{◌≡◌}
use Rattle.steps.specs.Steps.{Keeps}
use Rattle.saved.specs.Reader.{rank}
use Rattle.record.specs.Loading.{last_bare}
use Rattle.record.proofs.Built.{Served}
use Rattle.record.proofs.Record.put_servers.Given as goal

abbrev pub invariant-loop-b : goal.invariant-loop-b
invariant-loop-b l = (l.j ≡ rank (last_bare l.self).A l.b) × Served l.self.good l.run.words.now l.b × Keeps l.fn.run l.run
