-- The array rule, redraw by redraw, on any table: A falls, so A[b] redraws are enough from b on, and fewer and fewer seats have a smaller A.
use Rattle.promises.proofs.Prelude.{◌≡◌, refl, ◌∙◌, sym, ◌≢◌, inl, inr, cond, List, [], ◌∷◌, ℕ, ◌-◌, ◌≤◌, ◌<◌, ◌+◌, ◌*◌, suc, zero, arith, dec_lt, length}
use Rattle.promises.proofs.Prelude.{ltb, ne_eqb, le-ltb, lt-ltb}
use Rattle.promises.proofs.Decided.{bool_cases}
use native.Mathlib.Nat.{mul-add, mul-sub, mul-le-mul_left, mul-le-mul_right}
use Rattle.rules.specs.Table.{◌!◌}
use Rattle.rules.specs.Keys.{Walk, at, lost, Looked, damaged, onward, redraw, lookup}
use Rattle.rules.proofs.Walks.{walk_end, lookup_here}
use Rattle.find.specs.Bounds.{Bounded, Fits}

onward_same : (w : Walk) (f g : ℕ → ℕ → Looked) → ((x n : ℕ) → w ≡ at x n → f x n ≡ g x n) → onward w f ≡ onward w g
onward_same lost f g h = refl
onward_same (at x n) f g h = h x n refl

module _ (A K : List ℕ) (pick : ℕ → ℕ → ℕ) where
  -- A[b] redraws are enough from b on
  enough : (i j d f b : ℕ) → A ! b ≤ i → A ! b ≤ j → lookup A K pick i d f b ≡ lookup A K pick j d f b
  unfolding lookup
  enough zero j d f b hi hj = sym (lookup_here A K pick j d f b (omega arith))
  enough (suc i) zero d f b hi hj = lookup_here A K pick (suc i) d f b (omega arith)
  enough (suc i) (suc j) d f b hi hj =
      rw (onward_same (redraw A K pick b) _ _ (λ x n e.
      let l = walk_end A K (A ! b) (length A) 0 _ e in
      enough i j (d + 1) (f + n) x (omega arith) (omega arith)))

  -- a redraw, and what follows it
  lookup_redraws : (d f b : ℕ) → A ! b ≢ 0
      → lookup A K pick (A ! b) d f b ≡ onward (redraw A K pick b) (λ x n. lookup A K pick (A ! b) (d + 1) (f + n) x)
  unfolding lookup
  lookup_redraws d f b ne = enough (A ! b) (suc (A ! b)) d f b (omega arith) (omega arith) ∙ rw (ne_eqb (A ! b) 0 ne)

  pub lookup_lost : (d f b : ℕ) → A ! b ≢ 0 → redraw A K pick b ≡ lost → lookup A K pick (A ! b) d f b ≡ damaged
  lookup_lost d f b ne e = cc (lookup_redraws d f b ne)

  pub lookup_goes : (d f b x n : ℕ) → A ! b ≢ 0 → redraw A K pick b ≡ at x n
      → lookup A K pick (A ! b) d f b ≡ lookup A K pick (A ! x) (d + 1) (f + n) x
  lookup_goes d f b x n ne e =
      let h = walk_end A K (A ! b) (length A) 0 _ e in
      lookup_redraws d f b ne ∙ rw e (enough (A ! b) (A ! x) (d + 1) (f + n) x (omega arith) (omega arith))

-- ---- below: how many seats have an A below m

unfoldable pub below : List ℕ → ℕ → ℕ
below [] m = 0
below (x ∷ A) m = cond (ltb x m) 1 0 + below A m

pub below_most : (A : List ℕ) (m : ℕ) → below A m ≤ length A
unfolding below
below_most [] m = omega arith
below_most (x ∷ A) m = let l = below_most A m in elim (bool_cases (ltb x m)) [ inl t ↦ rw t (omega arith) | inr t ↦ rw t (omega arith) ]

one_rises : (x k m : ℕ) → k ≤ m → cond (ltb x k) 1 0 ≤ cond (ltb x m) 1 0
one_rises x k m h = elim (dec_lt x k) [ yes l ↦ rw (lt-ltb x k l, lt-ltb x m (omega arith)) (omega arith) | no l ↦ rw (le-ltb x k (omega arith)) (omega arith) ]

below_rises : (A : List ℕ) (k m : ℕ) → k ≤ m → below A k ≤ below A m
unfolding below
below_rises [] k m h = omega arith
below_rises (x ∷ A) k m h = omega (arith, one_rises x k m h, below_rises A k m h)

pub below_falls : (A : List ℕ) (m x : ℕ) → x < length A → A ! x < m → below A (A ! x) < below A m
unfolding below
below_falls [] m x i l = absurd (omega arith)
below_falls (y ∷ A) m zero i l = rw (le-ltb y y (omega arith), lt-ltb y m l) (omega (arith, below_rises A y m (omega arith)))
below_falls (y ∷ A) m (suc x) i l = omega (arith, one_rises y (A ! x) m (omega arith), below_falls A m x (omega arith) l)

-- ---- SoFar: d draws and f follows at seat b. On any table there are a draws at the most, and a redraw follows K a times at the most.

pub record SoFar (A : List ℕ) (b d f : ℕ) : Type 0 where
  pub seat : b < length A
  pub draws : below A (A ! b) + d ≤ length A
  pub walks : f + length A ≤ length A * d

pub so_far_first : (A : List ℕ) (b : ℕ) → b < length A → SoFar A b 1 0
so_far_first A b i =
    record { seat = i; draws = omega (arith, below_falls A (suc (A ! b)) b i (omega arith), below_most A (suc (A ! b))); walks = omega arith }

pub so_far_goes : {A : List ℕ} (K : List ℕ) (pick : ℕ → ℕ → ℕ) {b d f x n : ℕ} → SoFar A b d f → redraw A K pick b ≡ at x n → SoFar A x (d + 1) (f + n)
so_far_goes {A} K pick {b} {d} {x = x} s e =
    let h = walk_end A K (A ! b) (length A) 0 _ e in
    record {
      seat = h.0;
      draws = omega (arith, s.draws, below_falls A (A ! b) x h.0 h.1);
      walks = omega (arith, s.walks, h.2, mul-add (length A) d 1);
    }

pub so_far_bounded : {A : List ℕ} {b d f : ℕ} → SoFar A b d f → Bounded (length A) d f
so_far_bounded {A} {d = d} s =
    let most : d ≤ length A = omega (arith, s.draws) in
    record { draws = most; walks = omega (arith, s.walks, mul-le-mul_left (length A) most, mul-sub (length A) (length A) 1) }

pub bounded_fits : Fits
bounded_fits a d f most h = (omega (arith, h.draws), omega (arith, h.walks, mul-le-mul_right (a - 1) most))
