-- A made table passes the test: the full one does, and taking a seat out keeps it.
use Rattle.promises.proofs.Prelude.{◌≡◌, ◌∙◌, sym, ◌≢◌, List, ℕ, ◌-◌, ◌≤◌, ◌<◌, suc, zero, arith, ℕ_discrete, dec_lt}
use Rattle.rules.specs.Table.{Bare, ◌!◌}
use Rattle.rules.specs.Changes.{out, Leaves}
use Rattle.rules.specs.Keys.{full}
use Rattle.sound.specs.Kept.{Kept}
use Rattle.sound.specs.Removals.{after, Takeable}
use Rattle.sound.specs.Test.{Owes, gone, stays, Moved, Removed, Test}
use Rattle.rules.proofs.Lists.{differ, own_at, zeros_at}
use Rattle.sound.proofs.Written.{Written, written}
use Rattle.sound.proofs.KeptOut.{kept_full, kept_out}
use Rattle.sound.proofs.Made.{fewer_still, after_is, next_leaves}

pub test_full : (a : ℕ) → 1 ≤ a → Test (full a)
test_full a h =
    let g = kept_full a h in
    record {
      shape = g.shape;
      seat = λ x l. let c = own_at a x l in record {
        used = λ e. c;
        out = λ ne. absurd (ne (zeros_at a x));
        start = stays (rw (zeros_at a x) (omega arith)) c (λ m. c);
      };
      removal = λ i l. record { taken = λ h. absurd (omega arith); rest = λ h. zeros_at a i };
    }

module _ (T : Bare) (b : ℕ) (g : Kept T) (v : Leaves T b) (w : Written T b) where
  abbrev T' : Bare
  T' = out T b

  above : (q : ℕ) → T.used ≤ q → T'.W ! q ≡ T.W ! q
  above q h = w.W_off q (omega arith)

  owes' : (x q : ℕ) → Owes T x q → Owes T' x q
  owes' x q (gone m e) =
      let nb : x ≢ b = differ T.A (omega arith) in
      let nl : x ≢ w.last = differ T.A (omega arith) in
      gone (rw (w.A_off x nb) m) (w.L_off x nl ∙ e)
  owes' x q (stays m e l) = elim (ℕ_discrete x b) [
    | yes k ↦ rw k (elim (dec_lt q T.used) [
      | yes h ↦ gone (rw w.A_at (omega arith)) (let lx = l h in cc)
      | no h ↦ stays (rw w.A_at (omega arith)) (above q (omega arith) ∙ e ∙ k) (λ j. absurd (omega arith))
    ])
    | no ne ↦
        let np : q ≢ w.position = λ k. ne (cc) in
        stays (rw (w.A_off x ne) m) (w.W_off q np ∙ e)
        (λ j. let lx = l (omega arith) in w.L_off x (differ T.L (omega arith)) ∙ lx)
  ]

  moved_new : T'.W ! (T.used - 1) ≢ b → Moved T' (T.used - 1) b
  moved_new other =
      let ne : w.last ≢ b = rw w.W_last at other in
      let np : w.position ≢ T.used - 1 = λ k. ne (w.nothing_moves k) in
      let free : T'.A ! w.last ≡ 0 = w.A_off w.last ne ∙ w.last_in_use in
      record {
        low = rw w.W_last w.last_below;
        under = rw w.L_b (omega arith);
        owes = rw (w.W_last, w.L_b) (stays (rw free (omega arith)) w.W_at (λ h. w.L_at));
      }

  moved_old : (p c : ℕ) → T.used ≤ p → 1 ≤ T.A ! c → Moved T p c → Moved T' p c
  moved_old p c h o m =
      let W-p : T'.W ! p ≡ T.W ! p = above p h in
      let L-c : T'.L ! c ≡ T.L ! c = w.L_off c (differ T.A (omega arith)) in
      record { low = rw W-p m.low; under = rw L-c m.under; owes = rw (W-p, L-c) (owes' _ _ m.owes) }

  removed' : Test T → (i : ℕ) → i < T'.seats - T'.used → Removed T' i (T'.R ! i)
  removed' t i h = elim (ℕ_discrete i (T.seats - T.used)) [
    | yes e ↦
        let p : T.seats - 1 - (T.seats - T.used) ≡ T.used - 1 = omega arith in
        rw (e, w.R_at) (record { below = v.below; dated = w.A_at ∙ sym p; last_k = rw p (w.K_at ∙ sym w.W_last); moved = rw p moved_new })
    | no ne ↦
        let r = (t.removal i (omega arith)).taken (omega arith) in
        let up : T.used ≤ T.seats - 1 - i = omega arith in
        let gone : 1 ≤ T.A ! (T.R ! i) = omega (arith, r.dated) in
        let nb : T.R ! i ≢ b = differ T.A (omega arith) in
        rw (w.R_off i ne)
        (record {
          below = r.below;
          dated = w.A_off _ nb ∙ r.dated;
          last_k = w.K_off _ nb ∙ r.last_k ∙ sym (above _ up);
          moved = rw (above _ up) (λ ne. moved_old _ _ up gone (r.moved ne));
        })
  ]

  test' : Test T → Test T'
  test' t =
      let k = kept_out g v in
      record {
        shape = k.shape;
        seat = λ x h. record { used = λ e. (k.seated x h e).0; out = k.order.each x h; start = owes' x x (t.seat x h).start };
        removal = λ i h. record { taken = removed' t i; rest = k.order.rest i };
      }

pub test_out : {T : Bare} {b : ℕ} → Kept T → Leaves T b → Test T → Test (out T b)
test_out {T} {b} g v t = test' T b g v (written g v) t

pub made_passes : (a : ℕ) (rs : List ℕ) (k : ℕ) → Takeable a rs k → Test (after a rs k)
unfolding after
made_passes a rs zero t = test_full a (omega arith)
made_passes a rs (suc k) t =
    let few : Takeable a rs k = fewer_still t (omega arith) in
    let d = after_is a rs k few in
    test_out d.kept (next_leaves t d) (made_passes a rs k few)
