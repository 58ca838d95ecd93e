-- Walks along K, before and after a change. Taking b out is not seen by a walk for m if fewer than m are in use then: it stops at b
-- before and after. And a walk from a position of the line ends at the seat that stands there: in a full table no step is taken, and when
-- b leaves, the walk that ended at b goes on by K to the seat that takes its place, and the others end as they did. So it follows K once
-- for each seat out of use at the most.
use Rattle.promises.proofs.Prelude.{◌≡◌, ◌∙◌, sym, ap, subst, ◌≢◌, List, ℕ, ◌-◌, ◌≤◌, ◌<◌, ◌+◌, suc, zero, arith, ℕ_discrete, dec_lt, length, length-set}
use lib.ListN.{get_or-eq_default}
use Rattle.rules.specs.Table.{◌!◌, Bare}
use Rattle.rules.specs.Changes.{out, Leaves}
use Rattle.rules.specs.Keys.{Walk, at, walk, full}
use Rattle.rules.proofs.Walks.{never, stops, goes, comes_zero, comes_suc, walk_stops, walk_goes}
use Rattle.rules.proofs.Lists.{differ, own_at}
use Rattle.sound.specs.Kept.{Kept}
use Rattle.sound.specs.Removals.{after, Takeable}
use Rattle.sound.specs.Test.{Test}
use Rattle.sound.proofs.Written.{Written, written}
use Rattle.sound.proofs.KeptOut.{kept_full, kept_out}
use Rattle.sound.proofs.Made.{fewer_still, after_is, next_leaves}
use Rattle.sound.proofs.Audit.{R_takeable, as_made}
use Rattle.lookups.specs.FewFollows.{EndsAt}

-- the walk of a table
abbrev pub walk_in : Bare → ℕ → ℕ → ℕ → ℕ → Walk
walk_in T m fuel n h = walk T.A T.K m fuel n h

-- a seat out of use was taken out when no fewer were in use than now
pub gone : {T : Bare} → Kept T → (x : ℕ) → T.A ! x ≢ 0 → T.used ≤ T.A ! x
gone {T} g x ne = elim (dec_lt x T.seats) [
  | no h ↦ absurd (ne (get_or-eq_default T.A 0 (omega (arith, g.shape.len_A))))
  | yes h ↦ (g.order.each x h ne).0
]

-- a walk follows K once for each removal at most
abbrev pub Front : Bare → Type 0
Front T = (q fuel : ℕ) → q < T.used → T.seats - T.used ≤ fuel → EndsAt (T.W ! q) (T.seats - T.used) (walk_in T T.used fuel 0 q)

-- it stops at a seat of the line
stands : {T : Bare} → Kept T → (q fuel n : ℕ) → q < T.used → walk_in T T.used fuel n (T.W ! q) ≡ at (T.W ! q) n
stands {T} g q fuel n h =
    let l = g.line q h in
    walk_stops T.A T.K T.used fuel n (T.W ! q) (omega (arith, g.shape.len_A)) (omega arith)

front_full : (a : ℕ) → 1 ≤ a → Front (full a)
front_full a h q fuel l m =
    let own : (full a).W ! q ≡ q = own_at a q l in
    record { follows = 0; is = rw own (rw own at (stands (kept_full a h) q fuel 0 l)); few = omega arith }

module _ {T : Bare} {b : ℕ} (g : Kept T) (v : Leaves T b) where
  abbrev T' : Bare
  T' = out T b

  abbrev w : Written T b
  w = written g v

  pub length_out : length T'.A ≡ length T.A
  length_out = length-set T.A b _

  -- both stop at b
  at_b : (m fuel n : ℕ) → T.used ≤ m → walk_in T' m fuel n b ≡ walk_in T m fuel n b
  at_b m fuel n l =
      let i : b < length T.A = omega (arith, g.shape.len_A) in
      walk_stops T'.A T'.K m fuel n b (rw length_out i) (rw w.A_at (omega arith))
      ∙ sym (walk_stops T.A T.K m fuel n b i (rw v.in_use (omega arith)))

  pub walk_out : (m fuel n h : ℕ) → T.used ≤ m → walk_in T' m fuel n h ≡ walk_in T m fuel n h
  unfolding walk
  walk_out m zero n h l = elim (ℕ_discrete h b) [ yes e ↦ rw e (at_b m zero n l) | no ne ↦ rw (length_out, w.A_off h ne) ]
  walk_out m (suc fuel) n h l = elim (ℕ_discrete h b) [
    | yes e ↦ rw e (at_b m (suc fuel) n l)
    | no ne ↦ rw (length_out, w.A_off h ne, w.K_off h ne, walk_out m fuel (n + 1) (T.K ! h) l)
  ]

  -- with b out, a walk for the line that is left goes where that for the line before went, to x after e, and on from there
  pub walk_on : {x y e most : ℕ} (fuel n h : ℕ) → walk_in T T.used fuel n h ≡ at x e
      → ((i : ℕ) → EndsAt y most (walk_in T' (T.used - 1) (suc i) e x)) → EndsAt y most (walk_in T' (T.used - 1) (suc fuel) n h)
  walk_on zero n h e on = elim (comes_zero T.A T.K T.used n h e) [ stops l i k c ↦ rw (k, c) (on zero) | goes l i k ↦ absurd (never k) ]
  walk_on (suc fuel) n h e on = elim (comes_suc T.A T.K T.used fuel n h e) [
    | stops l i k c ↦ rw (k, c) (on (suc fuel))
    | goes l i k ↦
        let nb : h ≢ b = differ T.A (omega arith) in
        rw (walk_goes T'.A T'.K (T.used - 1) (suc fuel) n h (rw length_out i) (rw (w.A_off h nb) (omega arith)), w.K_off h nb)
        (walk_on fuel (n + 1) (T.K ! h) k on)
  ]

  -- from who stood at q to who stands there: by one follow at the most
  onward : (q fuel n : ℕ) → q < T.used - 1 → EndsAt (T'.W ! q) (n + 1) (walk_in T' (T.used - 1) (suc fuel) n (T.W ! q))
  onward q fuel n h =
      let there = stands (kept_out g v) q in
      elim (ℕ_discrete q w.position) [
        | no ne ↦ record { follows = n; is = rw (← w.W_off q ne) (there (suc fuel) n h); few = omega arith }
        | yes e ↦
            let was : T.W ! q ≡ b = cc w.there in
            let now : T'.W ! q ≡ T'.K ! b = cc (w.W_at, w.K_at) in
            let goes = walk_goes T'.A T'.K (T.used - 1) fuel n b (simp length-set (omega (arith, g.shape.len_A))) (rw w.A_at (omega arith)) in
            record {
              follows = n + 1;
              is = rw was goes ∙ ap (walk_in T' (T.used - 1) fuel (n + 1)) (sym now) ∙ there fuel (n + 1) h;
              few = omega arith;
            }
      ]

  front_out : Front T → Front T'
  front_out f q zero h l = absurd (omega (arith, g.shape.most))
  front_out f q (suc fuel) h l =
      let was = f q fuel (omega arith) (omega (arith, g.shape.most)) in
      let now = walk_on {e = was.follows} {most = was.follows + 1} fuel 0 q was.is (λ i. onward q i was.follows h) in
      record { follows = now.follows; is = now.is; few = omega (arith, now.few, was.few, g.shape.most) }

front_after : (a : ℕ) (rs : List ℕ) (k : ℕ) → Takeable a rs k → Front (after a rs k)
unfolding after
front_after a rs zero t = front_full a (omega arith)
front_after a rs (suc k) t =
    let few : Takeable a rs k = fewer_still t (omega arith) in
    let d = after_is a rs k few in
    front_out d.kept (next_leaves t d) (front_after a rs k few)

pub front : (T : Bare) → Test T → Front T
front T t = subst Front (sym (as_made T t)) (front_after T.seats T.R (T.seats - T.used) (R_takeable T t))
