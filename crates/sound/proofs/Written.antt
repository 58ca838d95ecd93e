-- Taking a seat out, read word by word.
use Rattle.promises.proofs.Prelude.{◌≡◌, refl, ◌∙◌, sym, ap, ◌≢◌, ℕ, ◌-◌, ◌<◌, arith, ℕ_discrete, get_or-set_same, get_or-set_other}
use Rattle.rules.specs.Table.{Bare, ◌!◌}
use Rattle.rules.specs.Changes.{out, Leaves}
use Rattle.sound.specs.Kept.{Kept}
use Rattle.rules.proofs.Lists.{keeps}

-- what taking b out writes, and what it leaves
pub record Written (T : Bare) (b : ℕ) : Type 0 where
  pub last : ℕ
  pub position : ℕ
  pub is_last : T.W ! (T.used - 1) ≡ last
  pub is_position : T.L ! b ≡ position
  pub last_below : last < T.seats
  pub last_in_use : T.A ! last ≡ 0
  pub last_position : T.L ! last ≡ T.used - 1
  pub within : position < T.used
  pub there : T.W ! position ≡ b
  pub nothing_moves : position ≡ T.used - 1 → last ≡ b
  pub A_at : (out T b).A ! b ≡ T.used - 1
  pub K_at : (out T b).K ! b ≡ last
  pub W_at : (out T b).W ! position ≡ last
  pub W_last : (out T b).W ! (T.used - 1) ≡ last
  pub L_at : (out T b).L ! last ≡ position
  pub L_b : (out T b).L ! b ≡ position
  pub R_at : (out T b).R ! (T.seats - T.used) ≡ b
  pub A_off : (x : ℕ) → x ≢ b → (out T b).A ! x ≡ T.A ! x
  pub K_off : (x : ℕ) → x ≢ b → (out T b).K ! x ≡ T.K ! x
  pub W_off : (q : ℕ) → q ≢ position → (out T b).W ! q ≡ T.W ! q
  pub L_off : (x : ℕ) → x ≢ last → (out T b).L ! x ≡ T.L ! x
  pub R_off : (i : ℕ) → i ≢ T.seats - T.used → (out T b).R ! i ≡ T.R ! i

pub written : {T : Bare} {b : ℕ} → Kept T → Leaves T b → Written T b
written {T} {b} g v =
    let n = T.used - 1 in
    let last = T.W ! n in
    let position = T.L ! b in
    let l = g.line n (omega arith) in
    let s = g.seated b v.below v.in_use in
    let sh = g.shape in
    let L_at : (out T b).L ! last ≡ position = get_or-set_same T.L last position 0 (omega arith) in
    record {
      last = last;
      position = position;
      is_last = refl;
      is_position = refl;
      last_below = l.0;
      last_in_use = l.1;
      last_position = l.2;
      within = s.1;
      there = s.2;
      nothing_moves = λ e. ap (λ (q : ℕ). T.W ! q) (sym e) ∙ s.2;
      A_at = get_or-set_same T.A b n 0 (omega arith);
      K_at = get_or-set_same T.K b last 0 (omega arith);
      W_at = get_or-set_same T.W position last 0 (omega arith);
      W_last = keeps T.W position n;
      L_at = L_at;
      L_b = elim (ℕ_discrete b last) [ yes e ↦ ap (λ (x : ℕ). (out T b).L ! x) e ∙ L_at | no ne ↦ get_or-set_other T.L last b position 0 ne ];
      R_at = get_or-set_same T.R (T.seats - T.used) b 0 (omega arith);
      A_off = λ x ne. get_or-set_other T.A b x n 0 ne;
      K_off = λ x ne. get_or-set_other T.K b x last 0 ne;
      W_off = λ q ne. get_or-set_other T.W position q last 0 ne;
      L_off = λ x ne. get_or-set_other T.L last x position 0 ne;
      R_off = λ i ne. get_or-set_other T.R (T.seats - T.used) i b 0 ne;
    }
