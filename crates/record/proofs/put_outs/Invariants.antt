-- `record::put_outs` meets its contract. The loop's invariant: the records of the first i entries are put.
use Rattle.promises.proofs.Prelude.{◌≡◌, sets}
use Rattle.rules.specs.Table.{table_for}
use Rattle.saved.specs.Record.{each, removal_record}
use Rattle.fields.specs.Form.{out_at}
use Rattle.record.proofs.put_outs.Given as goal

abbrev pub invariant-loop-i : goal.invariant-loop-i
invariant-loop-i l = l.out ≡ sets l.initial.out (out_at l.f 0) (each (removal_record l.f (table_for l.run.seats l.run.words.now)) l.i)
