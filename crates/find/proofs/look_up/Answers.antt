-- `find::look_up` meets its contract and ends: a redraw leads to a seat with a smaller A, on any table. So fewer seats have a smaller
-- A still, the draws are at most a, and 32 bits hold the walks.
use Rattle.std.specs.Prelude.{Option, Some, None}
use Rattle.promises.proofs.Prelude.{◌≡◌, refl, ◌∙◌, sym, ap, List, ℕ, ◌<◌, ◌≤◌, ◌+◌, ◌^◌, arith, length}
use Rattle.rules.specs.Table.{◌!◌, most_seats}
use Rattle.rules.specs.Keys.{at, lost, pick_of, walk, redraw}
use Rattle.rules.specs.declared.Seat.{Seat}
use Rattle.find.specs.Steps.{walk_of}
use Rattle.rules.proofs.Walks.{walk_end, lookup_here}
use Rattle.find.proofs.Redraws.{lookup_lost, lookup_goes, SoFar, so_far_first, so_far_goes, so_far_bounded, bounded_fits}
use Rattle.find.proofs.look_up.Goals as goal

module _ (A K : List ℕ) (key b : ℕ) {h : ℕ} (r : Option (Seat × ℕ)) (p : h ≡ pick_of key b (A ! b)) (f : walk_of r ≡ walk A K (A ! b) (length A) 0 h) where
  -- a turn's redraw is the walk from its pick
  drew : redraw A K (pick_of key) b ≡ walk_of r
  drew = ap (walk A K (A ! b) (length A) 0) (sym p) ∙ sym f

  strays : r ≡ None → redraw A K (pick_of key) b ≡ lost
  strays e = rw e at drew

  -- the seat that it leads to, its follows, and what is counted with them
  goes : {x : Seat} {n : ℕ} → r ≡ Some (x, n) → redraw A K (pick_of key) b ≡ at x.0 n
  goes e = rw e at drew

  counts : {x : Seat} {n d w : ℕ} → length A ≤ most_seats → SoFar A b d w → r ≡ Some (x, n) → SoFar A x.0 (d + 1) (w + n) × (d + 1 < 2 ^ 32) × (w + n < 2 ^ 32)
  counts most s e =
      let so = so_far_goes K (pick_of key) s (goes e) in
      let fits = bounded_fits _ _ _ (omega (arith, most)) (so_far_bounded so) in
      (so, fits.0, fits.1)

pub loop-b-init : goal.loop-b-init
loop-b-init c = (so_far_first c.args.A.now c.args.first.0 c.requires.below, refl)

pub returns-then-m-eq0 : goal.returns-then-m-eq0
returns-then-m-eq0 c = let l = c.loop-b in record { rule = sym (lookup_here _ _ _ _ _ _ _ c.if-m-eq0.true) ∙ l.invariant.1; within = l.invariant.0.seat }

pub returns-in_err-next : goal.returns-in_err-next
returns-in_err-next c =
    rw c.from_residual.ensures
    (record { rule = sym (lookup_lost _ _ _ _ _ _ c.if-m-eq0.false (strays c.args.A.now c.args.K.now c.args.key c.loop-b.b.0 c.follow.result c.pick.ensures c.follow.ensures c.in_err-next.was)) ∙ c.loop-b.invariant.1; within = tt })

pub overflow_add-walks : goal.overflow_add-walks
overflow_add-walks c = omega (arith, (counts c.args.A.now c.args.K.now c.args.key c.loop-b.b.0 c.follow.result c.pick.ensures c.follow.ensures c.requires.most c.loop-b.invariant.0 c.in_ok-next.was).2)

pub loop-b-smaller : goal.loop-b-smaller
loop-b-smaller c = (walk_end _ _ _ _ _ _ (goes c.args.A.now c.args.K.now c.args.key c.loop-b.b.0 c.follow.result c.pick.ensures c.follow.ensures c.in_ok-next.was)).1

pub loop-b-preserved : goal.loop-b-preserved
loop-b-preserved c =
    let k = pick_of c.args.key in
    ((counts c.args.A.now c.args.K.now c.args.key c.loop-b.b.0 c.follow.result c.pick.ensures c.follow.ensures c.requires.most c.loop-b.invariant.0 c.in_ok-next.was).0, sym (lookup_goes _ _ k _ _ _ _ _ c.if-m-eq0.false (goes c.args.A.now c.args.K.now c.args.key c.loop-b.b.0 c.follow.result c.pick.ensures c.follow.ensures c.in_ok-next.was)) ∙ c.loop-b.invariant.1)
