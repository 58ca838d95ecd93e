-- Walks along K for m, which follow while A is m or more: a law for each way that a walk ends or goes on.
use Rattle.promises.proofs.Prelude.{◌≡◌, refl, true, false, Bool, List, ℕ, ◌≤◌, ◌<◌, ◌+◌, suc, zero, arith, length, ltb, le-ltb, lt-ltb}
use borrow.Author.Tests.{ltb-true, ltb-false}
use Rattle.rules.specs.Table.{◌!◌}
use Rattle.rules.specs.Keys.{on, found, Walk, at, lost, step, walk, lookup}

pub never : {x e : ℕ} → lost ≡ at x e → ⊥
never e = let z : ◌≡◌ {A = ℕ} 0 1 = cc in omega arith

-- how a walk from h, after n follows, comes to x after e: h is x, or it goes on
pub data Comes (A : List ℕ) (m n h x e : ℕ) (more : Walk) : Type 0 where
  stops : A ! h < m → h < length A → h ≡ x → n ≡ e → Comes A m n h x e more
  goes : m ≤ A ! h → h < length A → more ≡ at x e → Comes A m n h x e more

comes : {A : List ℕ} {m n h x e : ℕ} {more : Walk} (t u : Bool) → ltb h (length A) ≡ t → ltb (A ! h) m ≡ u → step t u (at h n) more ≡ at x e
    → Comes A m n h x e more
comes true true p q e = stops (ltb-true _ _ q) (ltb-true _ _ p) (cc) (cc)
comes true false p q e = goes (ltb-false _ _ q) (ltb-true _ _ p) e
comes false u p q e = absurd (never e)

module _ (A K : List ℕ) (m : ℕ) where
  pub comes_zero : {x e : ℕ} (n h : ℕ) → walk A K m zero n h ≡ at x e → Comes A m n h x e lost
  unfolding walk
  comes_zero n h e = comes (ltb h (length A)) (ltb (A ! h) m) refl refl e

  pub comes_suc : {x e : ℕ} (fuel n h : ℕ) → walk A K m (suc fuel) n h ≡ at x e → Comes A m n h x e (walk A K m fuel (n + 1) (K ! h))
  unfolding walk
  comes_suc fuel n h e = comes (ltb h (length A)) (ltb (A ! h) m) refl refl e

  -- it ends at a seat where A is below m, and follows K no more often than it may
  pub walk_end : {x e : ℕ} (fuel n h : ℕ) → walk A K m fuel n h ≡ at x e → (x < length A) × (A ! x < m) × (e ≤ n + fuel)
  walk_end zero n h e = elim (comes_zero n h e) [ stops l i k c ↦ rw (← k) (i, l, omega arith) | goes l i k ↦ absurd (never k) ]
  walk_end (suc fuel) n h e = elim (comes_suc fuel n h e) [
    | stops l i k c ↦ rw (← k) (i, l, omega arith)
    | goes l i k ↦ let r = walk_end fuel (n + 1) (K ! h) k in (r.0, r.1, omega arith)
  ]

  pub walk_stops : (fuel n h : ℕ) → h < length A → A ! h < m → walk A K m fuel n h ≡ at h n
  unfolding walk
  walk_stops zero n h i l = rw (lt-ltb _ _ i, lt-ltb _ _ l)
  walk_stops (suc fuel) n h i l = rw (lt-ltb _ _ i, lt-ltb _ _ l)

  pub walk_goes : (fuel n h : ℕ) → h < length A → m ≤ A ! h → walk A K m (suc fuel) n h ≡ walk A K m fuel (n + 1) (K ! h)
  unfolding walk
  walk_goes fuel n h i l = rw (lt-ltb _ _ i, le-ltb _ _ l)

  -- lost, past the seats or with K followed as often as it may be
  pub walk_past : (fuel n h : ℕ) → length A ≤ h → walk A K m fuel n h ≡ lost
  unfolding walk
  walk_past zero n h i = rw (le-ltb _ _ i)
  walk_past (suc fuel) n h i = rw (le-ltb _ _ i)

  pub walk_spent : (n h : ℕ) → h < length A → m ≤ A ! h → walk A K m 0 n h ≡ lost
  unfolding walk
  walk_spent n h i l = rw (lt-ltb _ _ i, le-ltb _ _ l)

-- the array rule ends at a seat in use
module _ (A K : List ℕ) (pick : ℕ → ℕ → ℕ) where
  pub lookup_here : (fuel d f b : ℕ) → A ! b ≡ 0 → lookup A K pick fuel d f b ≡ found (on b d) f
  unfolding lookup
  lookup_here zero d f b z = refl
  lookup_here (suc fuel) d f b z = rw z
