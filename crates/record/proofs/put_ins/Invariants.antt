-- `record::put_ins` meets its contract. The loop's invariant: the records of the seats below b are put, and the next goes after them.
use Rattle.promises.proofs.Prelude.{◌≡◌, ◌+◌, length, sets}
use Rattle.rules.specs.Table.{table_for}
use Rattle.saved.specs.Record.{each, seat_record}
use Rattle.record.proofs.put_ins.Given as goal

abbrev pub invariant-loop-b : goal.invariant-loop-b
invariant-loop-b l =
    let before = each (seat_record l.f (table_for l.run.seats l.run.words.now)) l.b in
    (l.next ≡ l.at + length before) × (l.out ≡ sets l.initial.out l.at before)
