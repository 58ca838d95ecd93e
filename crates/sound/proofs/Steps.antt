-- A change of a table that passes the test leaves one that passes; and taking out undoes seating.
use Rattle.promises.proofs.Prelude.{◌≡◌, ◌∙◌, sym, ap, subst, ℕ, ◌-◌, ◌<◌, suc, arith, get_or-set_same}
use Rattle.rules.specs.Table.{Bare, ◌!◌}
use Rattle.rules.specs.Changes.{out, seat, last_out, Leaves}
use Rattle.sound.specs.Kept.{Kept}
use Rattle.sound.specs.Removals.{after, Takeable}
use Rattle.sound.specs.Test.{Test}
use Rattle.sound.proofs.Made.{fewer_still, After, after_is, next_leaves, undone}
use Rattle.sound.proofs.Passes.{made_passes, test_out}
use Rattle.sound.proofs.Audit.{order, R_takeable, as_made}

pub kept : (T : Bare) → Test T → Kept T
kept T t = subst (λ (X : Bare). Kept X) (sym (as_made T t)) (after_is T.seats T.R (T.seats - T.used) (R_takeable T t)).kept

pub out_passes : (T : Bare) (b : ℕ) → Test T → Leaves T b → Test (out T b)
out_passes T b t v = test_out (kept T t) v t

-- the last seat out may leave again
pub seat_leaves : (T : Bare) → Test T → T.used < T.seats → Leaves (seat T) (last_out T)
seat_leaves T t h =
    let o = (order t).taken (T.seats - T.used - 1) (omega arith) in
    record { below = o.0; in_use = get_or-set_same T.A (last_out T) 0 0 (omega (arith, t.shape.len_A)); two = omega (arith, t.shape.some) }

module _ (T : Bare) (t : Test T) (h : T.used < T.seats) where
  abbrev j : ℕ
  j = T.seats - T.used - 1

  few : Takeable T.seats T.R (suc j)
  few = fewer_still (R_takeable T t) (omega arith)

  before : After T.seats T.R j (after T.seats T.R j)
  before = after_is T.seats T.R j (fewer_still few (omega arith))

  last_out_lem : T ≡ out (after T.seats T.R j) (T.R ! j)
  unfolding after
  last_out_lem = let e : T.seats - T.used ≡ suc j = omega arith in as_made T t ∙ ap (λ (k : ℕ). after T.seats T.R k) e

  seated : seat T ≡ after T.seats T.R j
  seated = ap seat last_out_lem ∙ undone before.kept (next_leaves few before)

  pub seat_passes : Test (seat T)
  seat_passes = subst (λ (X : Bare). Test X) (sym seated) (made_passes T.seats T.R j (fewer_still few (omega arith)))

  pub out_of_seat : out (seat T) (T.R ! j) ≡ T
  out_of_seat = ap (λ (X : Bare). out X (T.R ! j)) seated ∙ sym last_out_lem
