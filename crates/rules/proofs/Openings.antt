-- What stands in each part of an opening.
use Rattle.promises.proofs.Prelude.{◌≡◌, refl, ◌∙◌, ap, List, [], ◌∷◌, ◌++◌, ℕ, ◌-◌, ◌≤◌, ◌<◌, ◌+◌, suc, zero, arith, length, length-append, replicate}
use Rattle.promises.proofs.Prelude.{length-replicate}
use lib.ListN.{get_or-append}
use Rattle.rules.specs.Table.{◌!◌}
use Rattle.rules.specs.Changes.{count, down, open_a, open_r, open_s}
use Rattle.rules.proofs.Lists.{length_count, count_at, zeros_at}

length_down : (n t : ℕ) → length (down n t) ≡ n
length_down zero t = refl
length_down (suc n) t = ap suc (length_down n (t - 1))

down_at : (n t i : ℕ) → i < n → down n t ! i ≡ t - i
down_at zero t i h = absurd (omega arith)
down_at (suc n) t zero h = omega arith
down_at (suc n) t (suc i) h = down_at n (t - 1) i (omega arith) ∙ omega arith

-- w zeros, then n, n + 1, ..
counted : (w m n x : ℕ) → w ≤ x → x < w + m → (replicate w 0 ++ count m n) ! x ≡ n + (x - w)
counted zero m n x h l = count_at m n x (omega arith) ∙ omega arith
counted (suc w) m n zero h l = absurd (omega arith)
counted (suc w) m n (suc x) h l = counted w m n x (omega arith) (omega arith) ∙ omega arith

padded : (rs : List ℕ) (m i : ℕ) → length rs ≤ i → (rs ++ replicate m 0) ! i ≡ 0
padded [] m i h = zeros_at m i
padded (r ∷ rs) m zero h = absurd (omega arith)
padded (r ∷ rs) m (suc i) h = padded rs m i (omega arith)

module _ (a w : ℕ) where
  pub length_open_a : w ≤ a → length (open_a a w) ≡ a
  length_open_a fit = simp (length-append, length-replicate, length_count) (omega arith)

  pub open_a_in : (x : ℕ) → x < w → open_a a w ! x ≡ 0
  open_a_in x h = get_or-append (replicate w 0) (count (a - w) w) 0 x (simp length-replicate h) ∙ zeros_at w x

  pub open_a_out : (x : ℕ) → w ≤ x → x < a → open_a a w ! x ≡ x
  open_a_out x h l = counted w (a - w) w x h (omega arith) ∙ omega arith

  pub length_open_r : w ≤ a → length (open_r a w) ≡ a
  length_open_r fit = simp (length-append, length-replicate, length_down) (omega arith)

  pub open_r_out : (i : ℕ) → i < a - w → open_r a w ! i ≡ a - 1 - i
  open_r_out i h = get_or-append (down (a - w) (a - 1)) (replicate w 0) 0 i (simp length_down h) ∙ down_at (a - w) (a - 1) i h

  pub open_r_rest : (i : ℕ) → a - w ≤ i → open_r a w ! i ≡ 0
  open_r_rest i h = padded (down (a - w) (a - 1)) w i (simp length_down h)

module _ (a : ℕ) (ids : List ℕ) where
  pub length_open_s : length ids ≤ a → length (open_s a ids) ≡ a
  length_open_s fit = simp (length-append, length-replicate) (omega arith)

  pub open_s_in : (x : ℕ) → x < length ids → open_s a ids ! x ≡ ids ! x
  open_s_in x h = get_or-append ids (replicate (a - length ids) 0) 0 x h

  pub open_s_out : (x : ℕ) → length ids ≤ x → open_s a ids ! x ≡ 0
  open_s_out x h = padded ids (a - length ids) x h
