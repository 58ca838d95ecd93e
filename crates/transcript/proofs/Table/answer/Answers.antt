-- `Table::answer` meets its contract: each command has its call. What `command` promises of the line is read at the arm's own command.
use Rattle.promises.proofs.Prelude.{refl, sym, arith, length-take-le}
use Rattle.lines.proofs.Standing.{told}
use Rattle.transcript.specs.Transcript.{respond}
use Rattle.transcript.specs.Replies.{byte_room}
use Rattle.transcript.proofs.Tables.{after_none, respond_as}
use Rattle.transcript.proofs.Table.answer.Goals as goal

pub slice_bounds-open-end : goal.slice_bounds-open-end
slice_bounds-open-end c = (told _ _ _ _ (rw c.in-Some-Open.field-0-is at c.in-Some-Open.ensures)).1

pub slice_bounds-open-end-in-Some-Open : goal.slice_bounds-open-end-in-Some-Open
slice_bounds-open-end-in-Some-Open c = sym (length-take-le _ _ (told _ _ _ _ (rw c.in-Some-Open.field-0-is at c.in-Some-Open.ensures)).1)

pub returns-in-Some-Open : goal.returns-in-Some-Open
unfolding respond
returns-in-Some-Open c = respond_as _ _ _ (told _ _ _ _ (rw c.in-Some-Open.field-0-is at c.in-Some-Open.ensures)).0 (omega arith) c.open.ensures

pub returns-in-Some-Seat : goal.returns-in-Some-Seat
unfolding respond
returns-in-Some-Seat c = respond_as _ _ _ (told _ _ _ _ (rw c.in-Some-Seat.field-0-is at c.in-Some-Seat.ensures)).0 (omega arith) c.seat.ensures

pub returns-in-Some-Out : goal.returns-in-Some-Out
unfolding respond
returns-in-Some-Out c = respond_as _ _ _ (told _ _ _ _ (rw c.in-Some-Out.field-0-is at c.in-Some-Out.ensures)).0 (omega arith) c.out.ensures

pub returns-in-Some-Find : goal.returns-in-Some-Find
unfolding respond
returns-in-Some-Find c = respond_as _ _ _ (told _ _ _ _ (rw c.in-Some-Find.field-0-is at c.in-Some-Find.ensures)).0 (omega arith) c.find.ensures

pub returns-in-None : goal.returns-in-None
unfolding respond
returns-in-None c =
    respond_as _ _ _ {most = byte_room} (told _ _ _ _ c.in-None.ensures).0 (omega arith)
    (after_none _ _ refl (record { answer = refl; short = omega arith }) refl)
