-- Taking b out moves only keys that were on b: every walk that a lookup made before ends where it did, so the lookup runs as it did
-- until it meets b. Seating is the same read backwards.
use Rattle.promises.proofs.Prelude.{◌≡◌, refl, ◌∙◌, ap, subst, inl, inr, ◌⊎◌, ℕ, ◌+◌, suc, zero, ℕ_discrete, length, ne_eqb}
use Rattle.rules.specs.Table.{◌!◌, Bare}
use Rattle.rules.specs.Changes.{out, seat, last_out, Leaves}
use Rattle.rules.specs.Keys.{Found, on, at, lost, Looked, found, onward, lookup, array_rule}
use Rattle.sound.specs.Kept.{Kept}
use Rattle.sound.proofs.Written.{written}
use Rattle.sound.proofs.Steps.{kept, seat_passes, seat_leaves, out_of_seat}
use Rattle.sound.proofs.Reached.{passes, leaves, room, reached_kept}
use Rattle.lookups.specs.Stay.{OnlyOn, TakingOutKeeps, SeatingKeeps}
use Rattle.rules.proofs.Walks.{lookup_here}
use Rattle.lookups.proofs.Walks.{walk_in, gone, length_out, walk_out}

abbrev Either : ℕ → Looked → Looked → Type 0
Either b with without = (without ≡ with) ⊎ ((d f : ℕ) × (with ≡ found (on b d) f))

module _ {T : Bare} {b : ℕ} (g : Kept T) (v : Leaves T b) (pick : ℕ → ℕ → ℕ) where
  abbrev from : Bare → ℕ → ℕ → ℕ → ℕ → Looked
  from U fuel d f x = lookup U.A U.K pick fuel d f x

  lookup_out : (fuel d f x : ℕ) → Either b (from T fuel d f x) (from (out T b) fuel d f x)
  unfolding lookup
  lookup_out zero d f x = inl refl
  lookup_out (suc fuel) d f x = elim (ℕ_discrete x b) [
    | yes e ↦ inr (d, f, rw (e, v.in_use))
    | no nb ↦ elim (ℕ_discrete (T.A ! x) 0) [
      | yes z ↦ inl (rw ((written g v).A_off x nb, z))
      | no ne ↦
          let m = T.A ! x in
          let a = length T.A in
          rw ((written g v).A_off x nb, ne_eqb m 0 ne, length_out g v, walk_out g v m a 0 (pick x m) (gone g x ne))
          (elim (walk_in T m a 0 (pick x m))
          as (λ e. Either b (onward e (λ y n. from T fuel (d + 1) (f + n) y)) (onward e (λ y n. from (out T b) fuel (d + 1) (f + n) y))) [
            | at y n ↦ lookup_out fuel (d + 1) (f + n) y
            | lost ↦ inl refl
          ])
    ]
  ]

  pub only_on : (first : ℕ) → OnlyOn b (array_rule T pick first) (array_rule (out T b) pick first)
  only_on first =
      let r : Either b (array_rule T pick first) (array_rule (out T b) pick first) = elim (ℕ_discrete first b) [
        | yes e ↦ inr (1, 0, rw e (lookup_here T.A T.K pick (T.A ! b) 1 0 b v.in_use))
        | no nb ↦ rw ((written g v).A_off first nb) (lookup_out (T.A ! first) 1 0 first)
      ] in
      record {
        either = r;
        others = λ x d f ne p. elim r [
          | inl e ↦ e ∙ p
          | inr e ↦ let same : on x d ≡ on b e.0 = cc e.2 in absurd (ne (ap (λ (f : Found). f.seat) same))
        ];
      }

pub taking_out : TakingOutKeeps
taking_out T id b pick first r s = only_on (reached_kept r) (leaves (passes r) s) pick first

pub seating : SeatingKeeps
seating T id b pick first r s =
    let t = (passes r).test in
    let h = room (passes r) s in
    let U = seat T.bare in
    let stay = only_on (kept U (seat_passes T.bare t h)) (seat_leaves T.bare t h) pick first in
    rw (← s.is_last) (subst (λ (X : Bare). OnlyOn (last_out T.bare) (array_rule U pick first) (array_rule X pick first)) (out_of_seat T.bare t h) stay)
