-- `form::Head::ins_fit` meets its contract: a seat whose flag is 0 is in use, and its record ends within the bytes.
use Rattle.promises.proofs.Prelude.{◌≡◌, List, ℕ, ◌≤◌, ◌<◌, ◌+◌, ◌∙◌, sym, arith, add-one, below_more, length, take, length-take, get_or-take}
use Rattle.rules.specs.Table.{◌!◌}
use Rattle.fields.specs.Form.{in_length, in_at}
use Rattle.saved.specs.Reader.{rank}
use Rattle.saved.proofs.Ranks.{rank_most, rank_used, rank_out, rank_below}
use Rattle.form.specs.declared.Head.{Head}
use Rattle.form.specs.Heads.{removals}
use Rattle.form.proofs.Told.{in_room}
use Rattle.form.proofs.Head.ins_fit.Goals as goal
use Rattle.form.proofs.Head.ins_fit.Goals.{then-flag-eq0+else-not-in_fits, else-flag-eq0}

module _ (gone : List ℕ) (a b : ℕ) (long : a ≤ length gone) (l : b < length (take a gone)) where
  below : b < a
  below = omega (arith, length-take {A = ℕ})

  -- the flag that the loop reads
  flag : take a gone ! b ≡ gone ! b
  flag = get_or-take a gone b 0 below

room : (h : Head) (gone : List ℕ) (b j : ℕ) → (h.seats ≤ length gone) × (rank gone h.seats ≡ h.used) → b < length (take h.seats gone) → take h.seats gone ! b ≡ 0
    → j ≡ rank gone b → in_at h.form (removals h) j + in_length h.form ≤ length h.bytes.now
room h gone b j (long, all) l z is =
    let below = rank_below gone h.seats b (below gone h.seats b long l) (sym (flag gone h.seats b long l) ∙ z) in
    in_room h j (omega arith)

pub in_at-requires : goal.in_at-requires
in_at-requires c =
    rw c.removals.ensures
    (omega (arith, room c.args.self.now c.args.gone.now c.loop-b.b c.loop-b.j c.requires c.loop-b-test.true c.if-flag-eq0.true c.loop-b.invariant.0))

pub in_fits-requires : goal.in_fits-requires
in_fits-requires c =
    rw (c.in_at.ensures, c.removals.ensures)
    (room c.args.self.now c.args.gone.now c.loop-b.b c.loop-b.j c.requires c.loop-b-test.true c.if-flag-eq0.true c.loop-b.invariant.0)

pub overflow_add-j : goal.overflow_add-j
overflow_add-j c = omega (arith, c.loop-b.invariant.0, rank_most c.args.gone.now c.loop-b.b)

pub loop-b-preserved : goal.loop-b-preserved
loop-b-preserved c =
    let gone = c.args.gone.now in
    let b = c.loop-b.b in
    let flag = flag gone c.args.self.now.seats b c.requires.0 c.loop-b-test.true in
    elim c.if-flag-eq0.branch [
      | then-flag-eq0+else-not-in_fits w ↦
          let fits = rw (w.in_at.ensures, w.removals.ensures, c.loop-b.invariant.0, w.if-not-in_fits.false) at w.in_fits.ensures in
          (rw add-one (omega (arith, rank_used gone b (sym flag ∙ w.if-flag-eq0.true), w.j-is, c.loop-b.invariant.0)), below_more _ _ c.loop-b.invariant.1 (λ z. fits))
      | else-flag-eq0 w ↦
          let out = λ (z : gone ! b ≡ 0). w.if-flag-eq0.false (flag ∙ z) in
          (rw add-one (omega (arith, rank_out gone b out, w.j-is, c.loop-b.invariant.0)), below_more _ _ c.loop-b.invariant.1 (λ z. absurd (out z)))
    ]
