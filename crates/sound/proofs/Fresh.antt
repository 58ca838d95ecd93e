-- Of length l + 1 numbers one does not stand in the list l: there are too few places.
use Rattle.promises.proofs.Prelude.{◌≡◌, ◌≢◌, inl, inr, ◌⊎◌, List, [], ◌∷◌, ℕ, ◌-◌, ◌≤◌, ◌<◌, ◌+◌, suc, zero, arith, ℕ_discrete, length}
use Prim.Native.Nat.{min}
use Rattle.rules.specs.Table.{◌!◌}

abbrev Absent : List ℕ → ℕ → Type 0
Absent l v = (i : ℕ) → i < length l → l ! i ≢ v

member? : (l : List ℕ) (v : ℕ) → ((i : ℕ) × (i < length l) × (l ! i ≡ v)) ⊎ Absent l v
member? [] v = inr (λ i h. absurd (omega arith))
member? (x ∷ l) v = elim (ℕ_discrete x v) [
  | yes e ↦ inl (0, omega arith, e)
  | no ne ↦ elim (member? l v) [
    | inl m ↦ inl (suc m.0, omega arith, m.2)
    | inr a ↦ inr (λ i. elim i as (λ k. k < length (x ∷ l) → (x ∷ l) ! k ≢ v) [ zero ↦ λ h. ne | suc j ↦ λ h. a j (omega arith) ])
  ]
]

-- how many are below v
below : ℕ → List ℕ → ℕ
below v [] = 0
below v (x ∷ l) = min 1 (v - x) + below v l

below_all : (v : ℕ) (l : List ℕ) → below v l ≤ length l
unfolding below
below_all v [] = omega arith
below_all v (x ∷ l) = omega (arith, below_all v l)

below_more : (v : ℕ) (l : List ℕ) → below v l ≤ below (suc v) l
unfolding below
below_more v [] = omega arith
below_more v (x ∷ l) = omega (arith, below_more v l)

below_hit : (v : ℕ) (l : List ℕ) (i : ℕ) → i < length l → l ! i ≡ v → below v l < below (suc v) l
unfolding below
below_hit v [] i h e = absurd (omega arith)
below_hit v (x ∷ l) zero h e = omega (arith, below_more v l)
below_hit v (x ∷ l) (suc i) h e = omega (arith, below_hit v l i (omega arith) e)

search_to : (l : List ℕ) (v : ℕ) → (v ≤ below v l) ⊎ ((u : ℕ) × (u < v) × Absent l u)
search_to l zero = inl (omega arith)
search_to l (suc v) = elim (search_to l v) [
  | inr f ↦ inr (f.0, omega arith, f.2)
  | inl all ↦ elim (member? l v) [
    | inl m ↦ inl (omega (arith, below_hit v l m.0 m.1 m.2))
    | inr a ↦ inr (v, omega arith, a)
  ]
]

pub fresh : (l : List ℕ) → (u : ℕ) × (u ≤ length l) × ((i : ℕ) → i < length l → l ! i ≢ u)
fresh l = elim (search_to l (suc (length l))) [
  | inl all ↦ absurd (omega (arith, below_all (suc (length l)) l))
  | inr f ↦ (f.0, omega arith, f.2)
]
