-- `form::Head::note_out` meets its contract: each way out has met, or missed, what `OutFits` names.
use Rattle.promises.proofs.Prelude.{arith, rules}
use Rattle.saved.proofs.Exact.{bare_counts}
use Rattle.form.specs.Heads.{removals}
use Rattle.form.proofs.Told.{out_room, leaves_next, noted_more}
use Rattle.form.proofs.Head.note_out.Goals as goal
use Rattle.form.proofs.Head.note_out.Goals.{then-self-seat-via-then-self-seat, then-self-seat-via-else-self-seat+then-gone-seat-ne0}

pub out_at-at-requires : goal.out_at-at-requires
out_at-at-requires c = omega (arith, out_room c.args.self.now c.args.i c.requires.0)

pub has_mark-requires : goal.has_mark-requires
has_mark-requires c = let r = out_room c.args.self.now c.args.i c.requires.0 in search rules

pub first_at-requires : goal.first_at-requires
first_at-requires c = let r = out_room c.args.self.now c.args.i c.requires.0 in search rules

pub returns-then-self-seat : goal.returns-then-self-seat
returns-then-self-seat c =
    let h = c.args.self.now in
    let named = rw c.out_at-at.ensures at c.first_at.ensures in
    elim c.then-self-seat.branch [
      | then-self-seat-via-then-self-seat w ↦ λ o. omega (arith, named, o.leaves.below, (bare_counts h.form h.bytes.now h.seats (removals h) c.args.i).0)
      | then-self-seat-via-else-self-seat+then-gone-seat-ne0 w ↦
          λ o. w.if-gone-seat-ne0.true ((c.requires.1.same c.first_at.result w.if-self-seat.false).1 (rw named o.leaves.in_use))
    ]

pub returns : goal.returns
returns c =
    let h = c.args.self.now in
    let low = (c.requires.1.same c.first_at.result (omega arith)).0 c.if-gone-seat-ne0.false in
    let named = rw c.out_at-at.ensures at c.first_at.ensures in
    rw named (
      record {
        mark = rw (c.out_at-at.ensures, c.if-not-has_mark.false) at c.has_mark.ensures;
        leaves = leaves_next h c.args.i c.requires.0 (omega arith) (rw named at low);
      },
      noted_more h c.args.i c.requires.0 c.args.gone.now (omega arith) c.requires.1,
    )
