-- `record::Record::take_all` meets its contract: each removal leads from one table to the next.
use Rattle.promises.proofs.Prelude.{◌∙◌, arith, rules}
use Rattle.record.proofs.Built.{out_room, laid_next}
use Rattle.record.proofs.Record.take_all.Goals as goal

pub first_at-requires : goal.first_at-requires
first_at-requires c = omega (arith, out_room c.args.self.now.good c.loop-i.i (omega arith))

pub loop-i-preserved : goal.loop-i-preserved
loop-i-preserved c =
    let before = c.loop-i.invariant.1 in
    let taken = rw (before.seats, c.first_at.ensures, c.out_at.ensures) at c.take_out_seat.ensures.words in
    (c.loop-i.invariant.0, record { seats = c.take_out_seat.ensures.keeps.seats ∙ before.seats; laid = laid_next c.args.self.now.good c.loop-i.i (omega arith) _ _ before.laid taken }, search rules)
