-- `record::put_ins` meets its contract: a seat's record goes behind those before it.
use Rattle.promises.proofs.Prelude.{sym, add-one, arith, length-append}
use Rattle.rules.specs.Table.{table_for}
use Rattle.saved.specs.Record.{each, seat_record}
use Rattle.saved.proofs.Each.{length_within, put_next}
use Rattle.record.proofs.put_ins.Goals as goal

pub put_seat-next-requires : goal.put_seat-next-requires
put_seat-next-requires c =
    let s = c.args in
    let r = s.run.now in
    omega (arith, length_within (seat_record s.f (table_for r.seats r.words.now)) r.seats c.loop-b.b (omega arith))

pub loop-b-preserved : goal.loop-b-preserved
loop-b-preserved c =
    let s = c.args in
    let f = seat_record s.f (table_for s.run.now.seats s.run.now.words.now) in
    let b = c.loop-b.b in (
      rw (add-one b, length-append (each f b) (f b)) (omega (arith, c.put_seat-next.ensures.next)),
      put_next s.out.now s.at f b (sym c.loop-b.invariant.0) c.loop-b.invariant.1 c.put_seat-next.ensures.bytes,
    )
