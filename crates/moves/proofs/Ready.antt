-- In a table that passes the audit's test each place that a change stores to is in the run.
use Rattle.promises.proofs.Prelude.{◌≡◌, ◌∙◌, sym, ap₂, ℕ, ◌-◌, ◌<◌, ◌+◌, arith, set}
use Rattle.rules.specs.Table.{◌!◌, Bare}
use Rattle.rules.specs.Changes.{seat, last_out, Leaves}
use Rattle.sound.specs.Test.{Test}
use Rattle.sound.proofs.Written.{Written, written}
use Rattle.sound.proofs.Steps.{kept, seat_passes, seat_leaves, out_of_seat}

-- what stands where a change reads is in the run
module _ {T : Bare} (t : Test T) where
  -- seating: the table is what taking the seat out again writes
  module _ (room : T.used < T.seats) where
    w : Written (seat T) (last_out T)
    w = written (kept (seat T) (seat_passes T t room)) (seat_leaves T t room)

    pub last_out_below : last_out T < T.seats
    last_out_below = (seat_leaves T t room).below

    pub next_below : T.W ! T.used < T.seats
    next_below =
        let e : T.used ≡ T.used + 1 - 1 = omega arith in
        let last : T.W ! T.used ≡ w.last = ap₂ (λ (X : Bare) (q : ℕ). X.W ! q) (sym (out_of_seat T t room)) e ∙ w.W_last in
        omega (arith, w.last_below)

    pub back_below : set T.L (T.W ! T.used) T.used ! last_out T < T.seats
    back_below = omega (arith, w.is_position, w.within)

  -- taking out: a seat in use stands in the line
  module _ {b : ℕ} (v : Leaves T b) where
    pub place_below : T.L ! b < T.seats
    place_below = omega (arith, ((kept T t).seated b v.below v.in_use).1, t.shape.most)

    pub end_below : T.W ! (T.used - 1) < T.seats
    end_below = ((kept T t).line (T.used - 1) (omega (arith, t.shape.some))).0
