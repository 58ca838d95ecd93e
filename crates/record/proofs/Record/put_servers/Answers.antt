-- `record::Record::put_servers` meets its contract: each seat gets its server in its turn.
use Rattle.promises.proofs.Prelude.{refl, ◌∙◌, arith, rules}
use Rattle.record.proofs.Built.{served_none, served_next, served_all}
use Rattle.record.proofs.Record.put_servers.Goals as goal

pub loop-b-init : goal.loop-b-init
loop-b-init c = (refl, served_none c.args.self.now.good _ c.requires.laid, record { seats = refl; lent = refl })

pub put_server-j-requires : goal.put_server-j-requires
put_server-j-requires c =
    let l = c.loop-b.invariant in
    record { removed = record { seats = l.2.seats ∙ c.requires.seats; laid = l.1.laid }; below = omega arith; is_rank = l.0 }

pub loop-b-preserved : goal.loop-b-preserved
loop-b-preserved c =
    (c.put_server-j.ensures.next, served_next c.args.self.now.good _ _ c.loop-b.b (omega arith) c.loop-b.invariant.1 c.put_server-j.ensures.words, search rules)

pub returns-clause-words : goal.returns-clause-words
returns-clause-words c = served_all c.args.self.now.good _ c.loop-b.b (omega arith) c.loop-b.invariant.1
