-- `record::put_outs` meets its contract: the record of each entry ends where the next begins.
use Rattle.promises.proofs.Prelude.{arith}
use Rattle.rules.specs.Table.{table_for}
use Rattle.saved.specs.Record.{removal_record}
use Rattle.fields.specs.Form.{out_at}
use Rattle.fields.proofs.Places.{out_within}
use Rattle.saved.proofs.Each.{put_next}
use Rattle.saved.proofs.Holds.{removals_end}
use Rattle.record.proofs.put_outs.Goals as goal

pub out_at-requires : goal.out_at-requires
out_at-requires c = omega (arith, out_within c.args.f c.loop-i.i c.args.m (omega arith))

pub put_out-requires : goal.put_out-requires
put_out-requires c =
    omega (arith, c.requires, out_within c.args.f c.loop-i.i c.args.m (omega arith))

pub loop-i-preserved : goal.loop-i-preserved
loop-i-preserved c =
    let f = c.args.f in
    let T = table_for c.args.run.now.seats c.args.run.now.words.now in
    put_next c.args.out.now (out_at f 0) (removal_record f T) c.loop-i.i (removals_end f T c.loop-i.i) c.loop-i.invariant
    (rw (c.get.ensures, c.out_at.ensures) at c.put_out.ensures)
