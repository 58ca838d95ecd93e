-- A full table keeps it, and taking a seat out does not break it.
use Rattle.promises.proofs.Prelude.{◌≡◌, ◌∙◌, sym, ap, ◌≢◌, ℕ, ◌-◌, ◌≤◌, ◌<◌, arith, ℕ_discrete, length-set, length-replicate}
use Rattle.rules.specs.Table.{Bare, ◌!◌}
use Rattle.rules.specs.Changes.{out, Leaves}
use Rattle.rules.specs.Keys.{full}
use Rattle.sound.specs.Kept.{Kept, Order}
use Rattle.rules.proofs.Lists.{differ, length_count, own_at, zeros_at}
use Rattle.sound.proofs.Written.{Written, written}

pub kept_full : (a : ℕ) → 1 ≤ a → Kept (full a)
kept_full a h =
    record {
      shape = record { some = h; most = omega arith; len_A = length-replicate a 0; len_K = length_count a 0; len_W = length_count a 0; len_L = length_count a 0; len_R = length-replicate a 0 };
      order = record { taken = λ i l. absurd (omega arith); rest = λ i l. zeros_at a i; each = λ x l ne. absurd (ne (zeros_at a x)) };
      seated = λ x l e. rw (own_at a x l) (omega arith, omega arith, own_at a x l);
      line = λ q l. rw (own_at a q l) (omega arith, zeros_at a q, own_at a q l);
    }

module _ (T : Bare) (b : ℕ) (g : Kept T) (v : Leaves T b) (w : Written T b) where
  abbrev T' : Bare
  T' = out T b

  -- a seat in use after is another, and was in use before
  pub still : (x : ℕ) → T'.A ! x ≡ 0 → (x ≢ b) × (T.A ! x ≡ 0)
  still x e =
      let ne : x ≢ b = λ k. omega (arith, w.A_at, ap (λ (y : ℕ). T'.A ! y) k) in
      (ne, sym (w.A_off x ne) ∙ e)

  order' : Order T'
  order' =
      record {
        taken = λ i h. elim (ℕ_discrete i (T.seats - T.used)) [
          | yes e ↦ rw e (rw w.R_at (v.below, w.A_at ∙ omega arith))
          | no ne ↦
              let t = g.order.taken i (omega arith) in
              let nb : T.R ! i ≢ b = differ T.A (omega arith) in
              rw (w.R_off i ne) (t.0, w.A_off (T.R ! i) nb ∙ t.1)
        ];
        rest = λ i h. w.R_off i (omega arith) ∙ g.order.rest i (omega arith);
        each = λ x h. elim (ℕ_discrete x b) [
          | yes e ↦ rw (e, w.A_at) (λ o. (omega arith, omega arith, ap (λ (i : ℕ). T'.R ! i) (omega arith) ∙ w.R_at))
          | no ne ↦ rw (w.A_off x ne) (λ o. let t = g.order.each x h o in (omega arith, t.1, w.R_off _ (omega arith) ∙ t.2))
        ];
      }

  seated' : (x : ℕ) → x < T.seats → T'.A ! x ≡ 0 → (T'.K ! x ≡ x) × (T'.L ! x < T'.used) × (T'.W ! (T'.L ! x) ≡ x)
  seated' x h e =
      let (nb, free) = still x e in
      let s = g.seated x h free in
      elim (ℕ_discrete x w.last) [
        | yes k ↦
            let l : T'.L ! x ≡ w.position = cc in
            let moves : w.position ≢ T.used - 1 = λ m. nb (k ∙ w.nothing_moves m) in
            rw l (w.K_off x nb ∙ s.0, omega arith, w.W_at ∙ sym k)
        | no ne ↦
            let in' : T.L ! x ≢ T.used - 1 = λ m. ne (cc) in
            let off : T.L ! x ≢ w.position = λ m. nb (cc) in
            rw (w.L_off x ne) (w.K_off x nb ∙ s.0, omega arith, w.W_off (T.L ! x) off ∙ s.2)
      ]

  line' : (q : ℕ) → q < T'.used → (T'.W ! q < T.seats) × (T'.A ! (T'.W ! q) ≡ 0) × (T'.L ! (T'.W ! q) ≡ q)
  line' q h =
      elim (ℕ_discrete q w.position) [
        | yes k ↦
            let nb : w.last ≢ b = differ T.L (omega arith) in
            let at : T'.W ! q ≡ w.last = cc in
            rw at (w.last_below, w.A_off w.last nb ∙ w.last_in_use, w.L_at ∙ sym k)
        | no ne ↦
            let l = g.line q (omega arith) in
            let nb : T.W ! q ≢ b = λ m. ne (cc) in
            let nl : T.W ! q ≢ w.last = differ T.L (omega arith) in
            rw (w.W_off q ne) (l.0, w.A_off (T.W ! q) nb ∙ l.1, w.L_off (T.W ! q) nl ∙ l.2)
      ]

  kept' : Kept T'
  kept' =
      record {
        shape = record { some = omega arith; most = omega arith; len_A = simp length-set g.shape.len_A; len_K = simp length-set g.shape.len_K; len_W = simp length-set g.shape.len_W; len_L = simp length-set g.shape.len_L; len_R = simp length-set g.shape.len_R };
        order = order';
        seated = seated';
        line = line';
      }

pub kept_out : {T : Bare} {b : ℕ} → Kept T → Leaves T b → Kept (out T b)
kept_out {T} {b} g v = kept' T b g v (written g v)
