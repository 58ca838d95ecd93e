-- Records one after the other: how long they are, what stands where, and how they are put. By induction on how many there are.
use Rattle.promises.proofs.Prelude.{◌≡◌, refl, ◌∙◌, List, [], ◌∷◌, ◌++◌, append-nil, append_assoc, ℕ, ◌≤◌, ◌<◌, ◌+◌, suc, zero, ◌*◌, add-one, arith, ℕ_discrete}
use Rattle.promises.proofs.Prelude.{length, length-append, sets}
use lib.Seq.{get_or_at}
use Rattle.rules.specs.Table.{◌!◌}
use Rattle.rules.proofs.Lists.{sets_append}
use Rattle.fields.specs.Numbers.{Stands}
use Rattle.fields.proofs.Numbers.{stands_left, stands_right, stands_both}
use Rattle.saved.specs.Record.{each}
use Rattle.saved.specs.Reader.{listed}

pub length_each : (f : ℕ → List ℕ) (k n : ℕ) → ((i : ℕ) → length (f i) ≡ k) → length (each f n) ≡ k * n
length_each f k zero h = omega arith
length_each f k (suc n) h = simp length-append (omega (arith, length_each f k n h, h n))

-- each of them follows those before it
splits : (f : ℕ → List ℕ) (n i : ℕ) → i < n → (rest : List ℕ) × (each f n ≡ each f i ++ (f i ++ rest))
splits f zero i h = absurd (omega arith)
splits f (suc n) i h = elim (ℕ_discrete i n) [
  | yes e ↦ ([], rw (e, append-nil))
  | no ne ↦ let (rest, e) = splits f n i (omega arith) in (rest ++ f n, simp (e, append_assoc))
]

pub length_within : (f : ℕ → List ℕ) (n i : ℕ) → i < n → length (each f i) + length (f i) ≤ length (each f n)
length_within f n i h = let (rest, e) = splits f n i h in rw e (simp length-append (omega arith))

module _ (s : List ℕ) (at : ℕ) (f : ℕ → List ℕ) where
  pub stands_at : (n i : ℕ) {next : ℕ} → i < n → at + length (each f i) ≡ next → Stands s at (each f n) → Stands s next (f i)
  stands_at n i {next} h is e = let (rest, same) = splits f n i h in stands_left s next (f i) rest (stands_right s at (each f i) _ is (rw same at e))

  pub stands_each : (n : ℕ) → ((i : ℕ) → i < n → Stands s (at + length (each f i)) (f i)) → Stands s at (each f n)
  stands_each zero h = refl
  stands_each (suc n) h = stands_both s at (each f n) (f n) refl (stands_each n (λ i l. h i (omega arith))) (h n (omega arith))

pub length_listed : (f : ℕ → ℕ) (n : ℕ) → length (listed f n) ≡ n
length_listed f n = length_each (λ i. f i ∷ []) 1 n (λ i. refl) ∙ omega arith

pub listed_at : (f : ℕ → ℕ) (n i : ℕ) → i < n → listed f n ! i ≡ f i
listed_at f n i h = let (rest, e) = splits (λ i. f i ∷ []) n i h in rw e (get_or_at (listed f i) (f i) rest 0 i (length_listed f i))

-- what is put after another stands after it
module _ (o : List ℕ) (at : ℕ) {o₁ o₂ : List ℕ} {next : ℕ} where
  pub put_then : (x y : List ℕ) → at + length x ≡ next → o₁ ≡ sets o at x → o₂ ≡ sets o₁ next y → o₂ ≡ sets o at (x ++ y)
  put_then x y e e₁ e₂ = cc (sets_append o x y at)

  -- one more of many
  pub put_next : (f : ℕ → List ℕ) (i : ℕ) → at + length (each f i) ≡ next → o₁ ≡ sets o at (each f i) → o₂ ≡ sets o₁ next (f i)
      → o₂ ≡ sets o at (each f (i + 1))
  put_next f i e e₁ e₂ = rw add-one (put_then (each f i) (f i) e e₁ e₂)
