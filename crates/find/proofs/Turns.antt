-- The walk that is left, with so many turns: K may be followed once less at each.
use Rattle.promises.proofs.Prelude.{◌≡◌, refl, List, ℕ, ◌+◌, ◌-◌, ◌≤◌, ◌<◌, zero, suc, arith, length}
use Rattle.rules.specs.Table.{◌!◌}
use Rattle.rules.specs.Keys.{Walk, at, lost, walk}
use Rattle.rules.proofs.Walks.{walk_stops, walk_goes, walk_past, walk_spent}

module _ (A K : List ℕ) (m : ℕ) where
  pub rest : ℕ → ℕ → ℕ → Walk
  rest zero n h = lost
  rest (suc fuel) n h = walk A K m fuel n h

  pub rest_whole : (a h : ℕ) → rest (a + 1 - 0) 0 h ≡ walk A K m a 0 h
  unfolding rest
  rest_whole a h = let e : a + 1 - 0 ≡ suc a = omega arith in rw e refl

  pub rest_none : (turns n h : ℕ) → turns ≡ 0 → rest turns n h ≡ lost
  unfolding rest
  rest_none zero n h e = refl
  rest_none (suc fuel) n h e = absurd (omega arith)

  pub rest_past : (turns n h : ℕ) → length A ≤ h → rest turns n h ≡ lost
  unfolding rest
  rest_past zero n h l = refl
  rest_past (suc fuel) n h l = walk_past A K m fuel n h l

  pub rest_stops : (turns n h : ℕ) → 0 < turns → h < length A → A ! h < m → rest turns n h ≡ at h n
  unfolding rest
  rest_stops zero n h some i l = absurd (omega arith)
  rest_stops (suc fuel) n h some i l = walk_stops A K m fuel n h i l

  pub rest_goes : (turns n h : ℕ) → h < length A → m ≤ A ! h → rest (suc turns) n h ≡ rest turns (n + 1) (K ! h)
  unfolding rest
  rest_goes zero n h i l = walk_spent A K m n h i l
  rest_goes (suc fuel) n h i l = walk_goes A K m fuel n h i l
