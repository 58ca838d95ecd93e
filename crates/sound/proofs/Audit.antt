-- A table that passes the test is made by taking out, in order, the seats that its R has first. (That what is so made passes is `made_passes`.)
-- Why: before each removal, every seat x at position q of the true line owes q. At first each seat owes its own number.
-- When b goes from position q, L[b] = q since b owes q; and the seat at the end of the line is W's, since it owes that
-- place, and owes q next, by the test. At the end the seats in use owe where they stand, which is W and L.
use Rattle.promises.proofs.Prelude.{◌≡◌, ◌∙◌, sym, ap, subst, ◌≢◌, ℕ, ◌-◌, ◌≤◌, ◌<◌, suc, zero, zero-add, arith, ℕ_discrete, dec_lt}
use Prim.Native.Nat.{max}
use lib.ListN.{get_or-eq_default}
use lib.Seq.{ext_get_or}
use Rattle.rules.specs.Table.{Bare, ◌!◌}
use Rattle.rules.specs.Changes.{out}
use Rattle.sound.specs.Kept.{Order}
use Rattle.sound.specs.Removals.{after, Takeable}
use Rattle.sound.specs.Test.{Owes, gone, stays, Moved, Removed, Test}
use Rattle.rules.proofs.Lists.{differ, count_at, zeros_at}
use Rattle.sound.proofs.Written.{Written, written}
use Rattle.sound.proofs.Made.{fewer_still, After, after_is, next_leaves}

-- the test's order, over all indices
pub order : {F : Bare} → Test F → Order F
order {F} t =
    record {
      taken = λ i h. let r = (t.removal i (omega arith)).taken h in (r.below, r.dated);
      rest = λ i h. elim (dec_lt i F.seats) [ yes l ↦ (t.removal i l).rest h | no l ↦ get_or-eq_default F.R 0 (omega arith) ];
      each = λ x h. (t.seat x h).out;
    }

pub R_takeable : (F : Bare) → Test F → Takeable F.seats F.R (F.seats - F.used)
R_takeable F t =
    record {
      fewer = omega arith;
      below = λ i h. ((order t).taken i h).0;
      apart = λ i j h l e. omega (arith, (order t).taken i (omega arith), (order t).taken j l, ap (λ (x : ℕ). F.A ! x) e);
    }

beyond : {j k : ℕ} → (j < k → ⊥) → j ≢ k → k < j
beyond l e = omega arith

earlier : {a k x n : ℕ} → x < a → k < a - 1 - x → n ≡ a - k → x < n - 1
earlier h l e = omega arith

-- what x owes, told by A
pub owes_gone : {F : Bare} {x q : ℕ} → Owes F x q → max q 1 ≤ F.A ! x → F.L ! x ≡ q
owes_gone (gone m e) h = e
owes_gone (stays m e l) h = absurd (omega arith)

pub owes_stays : {F : Bare} {x q : ℕ} → Owes F x q → F.A ! x < max q 1 → (F.W ! q ≡ x) × (q < F.used → F.L ! x ≡ q)
owes_stays (gone m e) h = absurd (omega arith)
owes_stays (stays m e l) h = (e, l)

-- T, on the way to F: what is written for good is F's, and the line owes its places
record Agrees (F T : Bare) : Type 0 where
  pub owes : (q : ℕ) → q < T.used → Owes F (T.W ! q) q
  pub cut_W : (p : ℕ) → T.used ≤ p → p < T.seats → T.W ! p ≡ F.W ! p
  pub out_K : (x : ℕ) → T.A ! x ≢ 0 → T.K ! x ≡ F.K ! x
  pub out_L : (x : ℕ) → T.A ! x ≢ 0 → T.L ! x ≡ F.L ! x

module _ (F : Bare) (t : Test F) (k : ℕ) (h : k < F.seats - F.used) (T : Bare) (d : After F.seats F.R k T) (g : Agrees F T) (w : Written T (F.R ! k)) where
  abbrev b : ℕ
  b = F.R ! k

  abbrev T' : Bare
  T' = out T b

  r : Removed F k b
  r = (t.removal k (omega arith)).taken h

  -- b leaves now
  F_A_b : F.A ! b ≡ T.used - 1
  F_A_b = r.dated ∙ omega arith

  moved : F.W ! (T.used - 1) ≢ b → Moved F (T.used - 1) b
  moved = subst (λ (p : ℕ). F.W ! p ≢ b → Moved F p b) (omega arith) r.moved

  -- so its place is L's
  F_L_b : F.L ! b ≡ w.position
  F_L_b =
      let o : Owes F b w.position = rw w.there at (g.owes w.position w.within) in
      owes_gone o (rw F_A_b (omega arith))

  -- who left before is out of use
  left_before : (j : ℕ) → j < k → T.A ! (F.R ! j) ≢ 0
  left_before j l z = omega (arith, (d.kept.order.taken j (omega arith)).1, ap (λ (x : ℕ). T.A ! x) (d.left j l))

  -- the last seat of the line leaves later, or never
  later : w.last ≢ b → F.A ! w.last < T.used - 1
  later ne = elim (ℕ_discrete (F.A ! w.last) 0) [
    | yes z ↦ omega arith
    | no nz ↦
        let o = (t.seat w.last (omega arith)).out nz in
        earlier o.1 (beyond (λ l. left_before _ l (cc)) (λ e. ne (cc))) d.used
  ]

  -- so it is W's
  F_W_last : F.W ! (T.used - 1) ≡ w.last
  F_W_last = elim (ℕ_discrete w.last b) [
    | yes e ↦ elim (ℕ_discrete (F.W ! (T.used - 1)) b) [
      | yes k ↦ k ∙ sym e
      | no nk ↦ let m = moved nk in absurd (omega (arith, F_L_b, ap (λ (x : ℕ). T.L ! x) e))
    ]
    | no ne ↦
        let o : Owes F w.last (T.used - 1) = rw w.is_last at (g.owes (T.used - 1) (omega arith)) in
        let l = later ne in
        (owes_stays o (omega arith)).0
  ]

  -- and owes the place that it takes
  last_owes : w.last ≢ b → Owes F w.last w.position
  last_owes ne = rw (F_W_last, F_L_b) at (moved (rw F_W_last ne)).owes

  agrees' : Agrees F T'
  agrees' =
      record {
        owes = λ q l. elim (ℕ_discrete q w.position) [
          | yes e ↦
              let ne : w.last ≢ b = differ T.L (omega arith) in
              rw e (rw w.W_at (last_owes ne))
          | no ne ↦ rw (w.W_off q ne) (g.owes q (omega arith))
        ];
        cut_W = λ p l m. elim (ℕ_discrete p (T.used - 1)) [
          | yes e ↦ cc F_W_last
          | no ne ↦ w.W_off p (omega arith) ∙ g.cut_W p (omega arith) m
        ];
        out_K = λ x o. elim (ℕ_discrete x b) [
          | yes e ↦ rw e (w.K_at ∙ sym F_W_last ∙ ap (λ (p : ℕ). F.W ! p) (omega arith) ∙ sym r.last_k)
          | no ne ↦ w.K_off x ne ∙ g.out_K x (rw (w.A_off x ne) at o)
        ];
        out_L = λ x o. elim (ℕ_discrete x b) [
          | yes e ↦ cc F_L_b
          | no ne ↦
              let o' : T.A ! x ≢ 0 = rw (w.A_off x ne) at o in
              w.L_off x (λ e. o' (cc)) ∙ g.out_L x o'
        ];
      }

agrees_after : (F : Bare) (t : Test F) (k : ℕ) → k ≤ F.seats - F.used → Agrees F (after F.seats F.R k)
unfolding after
agrees_after F t zero h =
    record {
      owes = λ q l. rw (count_at F.seats 0 q l, zero-add q) (t.seat q l).start;
      cut_W = λ p l m. absurd (omega arith);
      out_K = λ x o. absurd (o (zeros_at F.seats x));
      out_L = λ x o. absurd (o (zeros_at F.seats x));
    }
agrees_after F t (suc k) h =
    let a = F.seats in
    let few : Takeable a F.R (suc k) = fewer_still (R_takeable F t) h in
    let d = after_is a F.R k (fewer_still few (omega arith)) in
    agrees' F t k h (after a F.R k) d (agrees_after F t k (omega arith)) (written d.kept (next_leaves few d))

-- where R has x, A has its time
dated : (T : Bare) → Order T → (x y : ℕ) → T.used ≤ y → y < T.seats → T.R ! (T.seats - 1 - y) ≡ x → T.A ! x ≡ y
dated T o x y h l e = ap (λ (z : ℕ). T.A ! z) (sym e) ∙ (o.taken (T.seats - 1 - y) (omega arith)).1 ∙ omega arith

-- in the end T is F
module _ (F : Bare) (t : Test F) (T : Bare) (d : After F.seats F.R (F.seats - F.used) T) (g : Agrees F T) where
  used : T.used ≡ F.used
  used = d.used ∙ omega arith

  same_R : (i : ℕ) → T.R ! i ≡ F.R ! i
  same_R i = elim (dec_lt i (F.seats - F.used)) [
    | yes h ↦ d.left i h
    | no h ↦ d.kept.order.rest i (omega (arith, used)) ∙ sym ((order t).rest i (omega arith))
  ]

  same_A : (x : ℕ) → x < F.seats → T.A ! x ≡ F.A ! x
  same_A x h = elim (ℕ_discrete (F.A ! x) 0) [
    | no ne ↦
        let o = (t.seat x h).out ne in
        dated T d.kept.order x (F.A ! x) (omega (arith, used)) (omega arith) (same_R _ ∙ ap (λ (n : ℕ). F.R ! (n - 1 - F.A ! x)) d.seats ∙ o.2)
    | yes z ↦ elim (ℕ_discrete (T.A ! x) 0) [
      | yes y ↦ y ∙ sym z
      | no ne ↦
          let o = d.kept.order.each x (omega arith) ne in
          sym (dated F (order t) x (T.A ! x) (omega (arith, used)) (omega arith)
          (sym (same_R _) ∙ ap (λ (n : ℕ). T.R ! (n - 1 - T.A ! x)) (sym d.seats) ∙ o.2))
    ]
  ]

  same_W : (p : ℕ) → p < F.seats → T.W ! p ≡ F.W ! p
  same_W p h = elim (dec_lt p F.used) [
    | yes l ↦
        let s = d.kept.line p (omega (arith, used)) in
        sym (owes_stays (g.owes p (omega (arith, used))) (omega (arith, same_A (T.W ! p) (omega arith)))).0
    | no l ↦ g.cut_W p (omega (arith, used)) (omega arith)
  ]

  same_L : (x : ℕ) → x < F.seats → T.L ! x ≡ F.L ! x
  same_L x h = elim (ℕ_discrete (T.A ! x) 0) [
    | yes z ↦
        let s = d.kept.seated x (omega arith) z in
        let o : Owes F x (T.L ! x) = rw s.2 at (g.owes (T.L ! x) s.1) in
        sym ((owes_stays o (omega (arith, same_A x h))).1 (omega (arith, used)))
    | no o ↦ g.out_L x o
  ]

  same_K : (x : ℕ) → x < F.seats → T.K ! x ≡ F.K ! x
  same_K x h = elim (ℕ_discrete (T.A ! x) 0) [
    | yes z ↦ (d.kept.seated x (omega arith) z).0 ∙ sym ((t.seat x h).used (sym (same_A x h) ∙ z))
    | no o ↦ g.out_K x o
  ]

  same : T ≡ F
  same =
      let s = d.kept.shape in
      let f = t.shape in
      λ i. record {
        seats = d.seats i;
        used = used i;
        A = ext_get_or 0 T.A F.A (omega arith) (λ x h. same_A x (omega arith)) i;
        K = ext_get_or 0 T.K F.K (omega arith) (λ x h. same_K x (omega arith)) i;
        W = ext_get_or 0 T.W F.W (omega arith) (λ x h. same_W x (omega arith)) i;
        L = ext_get_or 0 T.L F.L (omega arith) (λ x h. same_L x (omega arith)) i;
        R = ext_get_or 0 T.R F.R (omega arith) (λ x h. same_R x) i;
      }

-- a table that passes is what taking out the first of its R makes
pub as_made : (F : Bare) → Test F → F ≡ after F.seats F.R (F.seats - F.used)
as_made F t =
    let a = F.seats in
    let k = a - F.used in
    sym (same F t (after a F.R k) (after_is a F.R k (R_takeable F t)) (agrees_after F t k (omega arith)))
