-- `record::Record::put_server` meets its contract: a seat in use has a server, and another none.
use Rattle.promises.proofs.Prelude.{◌≡◌, ◌∙◌, sym, ap, ◌≤◌, ◌+◌, arith, length}
use Rattle.rules.specs.Table.{◌!◌, Table}
use Rattle.fields.specs.Form.{in_length, in_at}
use Rattle.saved.proofs.Exact.{outs_rank}
use Rattle.saved.proofs.Ranks.{rank_most, seat_within}
use Rattle.record.specs.Loading.{removals, last_bare}
use Rattle.record.proofs.Record.put_server.Goals as goal
use Rattle.record.proofs.Record.put_server.Goals.{Else-get-ne0}

-- the record of the seat, which is in use, ends within the bytes
room : (c : Else-get-ne0)
    → let r = c.args.self.now in
    in_at r.form (removals r) c.args.j + in_length r.form ≤ length r.bytes.now
room c =
    let r = c.args.self.now in
    let A = (last_bare r).A in
    let read : c.get.result ≡ A ! c.args.b.0 = rw c.requires.removed.seats at c.get.ensures ∙ ap (λ (T : Table). T.bare.A ! c.args.b.0) c.requires.removed.laid.reads in
    let within = seat_within r.form A (removals r) r.seats c.args.b.0 c.requires.below (sym read ∙ c.if-get-ne0.false) in
    let all = outs_rank r.good.head r.good.body.outs in
    rw c.requires.is_rank (omega (arith, r.good.head.long, rw all at within))

pub in_at-at-requires : goal.in_at-at-requires
in_at-at-requires c = rw c.removals.ensures (omega (arith, room (goal.at.in_at-at-requires c).Else-get-ne0))

pub server_at-requires : goal.server_at-requires
server_at-requires c = rw (c.in_at-at.ensures, c.removals.ensures) (room (goal.at.server_at-requires c).Else-get-ne0)

pub overflow_add-result : goal.overflow_add-result
overflow_add-result c =
    omega (arith, c.requires.is_rank, c.requires.below, rank_most (last_bare c.args.self.now).A c.args.b.0)
