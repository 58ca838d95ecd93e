-- `Table::open` meets its contract: opening does not look at what the run held, and a refused one leaves it.
use Rattle.promises.proofs.Prelude.{◌≡◌, refl, ◌∙◌, sym, ap, arith, length, ◌++◌, drop, take, take-append-drop, length-replicate, length-take-le}
use Rattle.rules.specs.Table.{run_length}
use Rattle.transcript.specs.Transcript.{reopened}
use Rattle.transcript.specs.Tables.{table_in}
use Rattle.transcript.proofs.Tables.{refused_reply, short_as, after_call, after_none, reopened_same, refused_keeps, refused_reopens, reopens_many}
use Rattle.transcript.proofs.Table.open.Goals as goal
use Rattle.transcript.proofs.Table.open.Goals.{After-open_table}

-- the lent run is as long as the one of the definition
lent : (c : After-open_table) →
    let s = c.args in
    length (take c.start-len.result s.self.now.words.now) ≡ run_length s.a
lent c = let n = c.start-len in length-take-le n.result _ (omega (arith, n.ensures)) ∙ n.ensures

pub returns-then-a-gt-MOST_SEATS : goal.returns-then-a-gt-MOST_SEATS
returns-then-a-gt-MOST_SEATS c = after_none _ _ refl (record { answer = refl; short = omega arith }) (reopens_many _ _ _ _ c.if-a-gt-MOST_SEATS.true)

pub returns-in_err-used : goal.returns-in_err-used
returns-in_err-used c =
    let s = c.args in
    let v = table_in s.self.now in
    let why = c.in_err-used.field-0.0 in
    let e = c.in_err-used.ensures in
    let n = c.start-len.result in
    let kept : c.open_table.new.t ++ drop n s.self.now.words.now ≡ s.self.now.words.now =
    rw (refused_keeps v s.a s.ids.now _ _ why e) (take-append-drop n s.self.now.words.now) in
    after_none _ v (ap (take s.self.now.len) kept)
    (short_as (refused_reply c.from_residual.result why c.from_residual.ensures) (record { answer = refl; short = omega arith }))
    (refused_reopens v _ _ _ _ why e ∙ reopened_same v s.a s.ids.now _ _ (lent (goal.at.returns-in_err-used c).After-open_table ∙ sym (length-replicate _ 0)))

pub returns : goal.returns
returns c =
    let s = c.args in
    let v = table_in s.self.now in
    let long = lent (goal.at.returns c).After-open_table in
    after_call _ c.open_table.new.t s.self.now.words.now (omega (arith, long, c.start-len.ensures)) refl (record { answer = refl; short = omega arith })
    (ap (reopened v) c.in_ok-used.ensures ∙ reopened_same v s.a s.ids.now _ _ (long ∙ sym (length-replicate _ 0)))
