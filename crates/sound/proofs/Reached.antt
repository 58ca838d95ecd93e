-- A table is reached by some history if and only if it passes.
-- Only if: an opening passes the test, and so does what a change makes of a table that passes.
-- If: by induction on the seats out of use. With none it is an opening. Else seat any fresh id: the table that this makes
-- has one less, so it is reached, and taking that id out again gives the table back.
use Rattle.promises.proofs.Prelude.{◌≡◌, refl, ◌∙◌, sym, ap, subst, ap₂, ◌≢◌, List, ◌∷◌, ◌++◌, append-nil, ℕ, ◌-◌, ◌<◌, suc, zero, arith, ℕ_discrete, length}
use Rattle.promises.proofs.Prelude.{set, length-set, replicate, get_or-set_same, get_or-set_other}
use lib.Seq.{set-set, set-get_or}
use Rattle.rules.specs.Table.{◌!◌, Bare, Table, table, with_bare, with_ids}
use Rattle.rules.specs.Changes.{opened, last_out, take_out, seat_id, Leaves}
use Rattle.rules.specs.History.{Opens, Change, taking, seating, Seats, Takes, Accepts, changed, run, Accepted, done, then, Reached}
use Rattle.rules.specs.Keys.{full}
use Rattle.rules.specs.Asks.{Opening}
use Rattle.rules.proofs.Accepts.{opening, opens_from, taken, takes_from, seated, seats_from}
use Rattle.sound.specs.Kept.{Kept}
use Rattle.sound.specs.Removals.{after, Ids}
use Rattle.sound.specs.Test.{Test, Passes}
use Rattle.sound.proofs.Audit.{order, as_made}
use Rattle.sound.proofs.Steps.{kept, out_passes, seat_passes, seat_leaves, out_of_seat}
use Rattle.sound.proofs.Fresh.{fresh}
use Rattle.sound.proofs.IdsSet.{ids_set}
use Rattle.sound.proofs.Opened.{open_passes, open_ids}
use Rattle.sound.proofs.Histories.{reached_opened, reached_changed}

-- an id stands in a seat in use
pub named_in_use : {T : Table} {b : ℕ} → Passes T → b < T.bare.seats → T.S ! b ≢ 0 → T.bare.A ! b ≡ 0
named_in_use {T} {b} p below named = elim (ℕ_discrete (T.bare.A ! b) 0) [ yes e ↦ e | no ne ↦ absurd (named (p.ids.none b below ne)) ]

pub leaves : {T : Table} {id b : ℕ} → Passes T → Takes T id b → Leaves T.bare b
leaves {T} {id} {b} p t =
    let k = taken t in
    let below : b < T.bare.seats = omega (arith, k.inside, p.ids.size) in
    record { below = below; in_use = named_in_use p below (λ z. k.named (sym k.has ∙ z)); two = omega (arith, k.other, p.test.shape.some) }

pub room : {T : Table} {id b : ℕ} → Passes T → Seats T id b → T.bare.used < T.bare.seats
room p t = omega (arith, (seated t).room, p.test.shape.most)

-- what a change does not touch, once its words and ids pass
still : {T : Table} {B : Bare} {S : List ℕ} → Passes T → B.seats ≡ T.bare.seats → Test B → Ids B.seats B.A S → Passes (with_ids (with_bare T B) S)
still p e t i = record { most = rw e p.most; test = t; ids = i }

pub changed_passes : {T : Table} (c : Change) → Passes T → Accepts T c → Passes (changed T c)
changed_passes {T} (taking id b) p t =
    let v = leaves p t in
    still p refl (out_passes T.bare b p.test v)
    (ids_set b (T.bare.used - 1) 0 p.ids v.below p.test.shape.len_A (λ ne. refl) (λ z. absurd (omega (arith, v.two))) (λ o. absurd (o refl)))
changed_passes {T} (seating id b) p t =
    let h = room p t in
    let k = seated t in
    let below = (seat_leaves T.bare p.test h).below in
    still p refl (seat_passes T.bare p.test h)
    (ids_set _ 0 id p.ids below p.test.shape.len_A (λ ne. absurd (ne refl)) (λ z. k.is_id) (λ o x l. k.away x (omega (arith, p.ids.size))))

run_passes : {T : Table} {h : List Change} → Accepted T h → Passes T → Passes (run T h)
run_passes done p = p
run_passes (then {c = c} s ok) p = run_passes ok (changed_passes c p s)

pub opened_passes : (a : ℕ) (ids : List ℕ) → Opens a ids → Passes (opened a ids)
unfolding opened
opened_passes a ids o = let k = opening o in record { most = k.most; test = open_passes a ids k; ids = open_ids a ids k }

pub passes : {T : Table} → Reached T → Passes T
passes r = subst (λ (U : Table). Passes U) r.leaves (run_passes r.accepted (opened_passes r.a r.ids r.opens))

-- with every seat in use a table is an opening
filled : (F : Bare) → Test F → F.seats - F.used ≡ 0 → F ≡ full F.seats
unfolding after
filled F t e = as_made F t ∙ ap (λ (k : ℕ). after F.seats F.R k) e

module _ (T : Table) (p : Passes T) (e : T.bare.seats - T.bare.used ≡ 0) where
  in_use : (x : ℕ) → x < T.bare.seats → T.bare.A ! x ≡ 0
  in_use x h = elim (ℕ_discrete (T.bare.A ! x) 0) [ yes z ↦ z | no ne ↦ let o = (p.test.seat x h).out ne in absurd (omega arith) ]

  opens : Opening T.bare.seats T.S
  opens =
      let size = p.ids.size in
      record {
        most = p.most;
        some = omega arith;
        fit = omega arith;
        each = λ x h. p.ids.some x (omega arith) (in_use x (omega arith));
        apart = λ x y h l k. omega (arith, p.ids.apart x y (omega arith) (omega arith) (p.ids.some x (omega arith) (in_use x (omega arith))).0 k);
      }

  an_opening : T ≡ opened T.bare.seats T.S
  unfolding opened
  an_opening =
      let none : T.bare.seats - length T.S ≡ 0 = omega (arith, p.ids.size) in
      ap₂ table (filled T.bare p.test e ∙ sym (filled (opened T.bare.seats T.S).bare (open_passes T.bare.seats T.S opens) none))
      (sym (ap (λ (k : ℕ). T.S ++ replicate k 0) none ∙ append-nil T.S))

-- else one more id may be seated, and taken out again
module _ (T : Table) (p : Passes T) (h : T.bare.used < T.bare.seats) where
  abbrev b : ℕ
  b = last_out T.bare

  last_taken : (b < T.bare.seats) × (T.bare.A ! b ≡ T.bare.seats - 1 - (T.bare.seats - T.bare.used - 1))
  last_taken = (order p.test).taken (T.bare.seats - T.bare.used - 1) (omega arith)

  seatable : (id : ℕ) × Seats T id b
  seatable =
      let u = fresh (0 ∷ T.S) in
      (u.0, seats_from (record { is_id = (λ z. u.2 0 (omega arith) (sym z), omega (arith, p.most, p.ids.size)); away = λ x l. u.2 (suc x) (omega arith); room = omega arith; is_last = refl }))

  takes : (id : ℕ) → Seats T id b → Takes (seat_id T id) id b
  takes id t =
      let inside : b < length T.S = omega (arith, p.ids.size, last_taken.0) in
      let long = length-set T.S b id in
      takes_from
      (record { named = (seated t).is_id.0; inside = omega arith; has = get_or-set_same T.S b id 0 inside; other = omega (arith, p.test.shape.some) })
      (λ x l e. elim (ℕ_discrete x b) [ yes q ↦ q | no ne ↦ absurd ((seated t).away x (omega arith) (sym (get_or-set_other T.S b x id 0 ne) ∙ e)) ])

  pub back : (id : ℕ) → take_out (seat_id T id) b ≡ T
  back id =
      let none : T.S ! b ≡ 0 = p.ids.none b last_taken.0 (λ z. omega (arith, last_taken.1)) in
      ap₂ (λ (B : Bare) (S : List ℕ). with_ids (with_bare T B) S) (out_of_seat T.bare p.test h)
      (set-set T.S b id 0 ∙ ap (λ (v : ℕ). set T.S b v) (sym none) ∙ set-get_or T.S b 0)

reach : (k : ℕ) (T : Table) → T.bare.seats - T.bare.used ≡ k → Passes T → Reached T
reach zero T e p = subst (λ (U : Table). Reached U) (sym (an_opening T p e)) (reached_opened T.bare.seats T.S (opens_from (opens T p e)))
reach (suc k) T e p =
    let h : T.bare.used < T.bare.seats = omega arith in
    let (id, s) = seatable T p h in
    let r = reach k (seat_id T id) (omega arith) (changed_passes (seating id (b T p h)) p s) in
    subst (λ (U : Table). Reached U) (back T p h id) (reached_changed (taking id (b T p h)) r (takes T p h id s))

pub reached : {T : Table} → Passes T → Reached T
reached {T} p = reach (T.bare.seats - T.bare.used) T refl p

-- so a reached table keeps what made tables keep
pub reached_kept : {T : Table} → Reached T → Kept T.bare
reached_kept {T} r = kept T.bare (passes r).test
