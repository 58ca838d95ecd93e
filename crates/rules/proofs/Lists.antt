-- Laws of lists of words that the library lacks.
use Rattle.promises.proofs.Prelude.{◌≡◌, refl, ◌∙◌, sym, ap, ◌≢◌, List, [], ◌∷◌, ◌++◌, ℕ, ◌<◌, ◌+◌, suc, zero, add-zero, arith, ℕ_discrete, dec_lt, length}
use Rattle.promises.proofs.Prelude.{set, replicate, get_or-set_other, sets}
use lib.Seq.{set-get_or, set-set}
use Rattle.rules.specs.Table.{◌!◌}
use Rattle.rules.specs.Changes.{count}

-- neither number is below the other
pub not_apart : (x y : ℕ) → (x < y → ⊥) → (y < x → ⊥) → x ≡ y
not_apart x y p q = elim (dec_lt x y) [ yes l ↦ absurd (p l) | no l ↦ elim (dec_lt y x) [ yes m ↦ absurd (q m) | no m ↦ omega arith ] ]

pub length_count : (n i : ℕ) → length (count n i) ≡ n
length_count zero i = refl
length_count (suc n) i = ap suc (length_count n (suc i))

pub count_at : (n i j : ℕ) → j < n → count n i ! j ≡ i + j
count_at zero i j h = absurd (omega arith)
count_at (suc n) i zero h = omega arith
count_at (suc n) i (suc j) h = count_at n (suc i) j (omega arith) ∙ omega arith

-- b at b
pub own_at : (a b : ℕ) → b < a → count a 0 ! b ≡ b
own_at a b h = count_at a 0 b h ∙ omega arith

pub zeros_at : (n i : ℕ) → replicate n 0 ! i ≡ 0
zeros_at zero i = refl
zeros_at (suc n) zero = refl
zeros_at (suc n) (suc i) = zeros_at n i

-- storing at p what stands at n leaves n's word alone
pub keeps : (l : List ℕ) (p n : ℕ) → set l p (l ! n) ! n ≡ l ! n
keeps l p n = elim (ℕ_discrete n p) [ yes e ↦ rw e (set_get_or_at l p) | no ne ↦ get_or-set_other l p n (l ! n) 0 ne ]
  where
    set_get_or_at : (l : List ℕ) (p : ℕ) → set l p (l ! p) ! p ≡ l ! p
    set_get_or_at l p = ap (λ (m : List ℕ). m ! p) (set-get_or l p 0)

-- a store and its undoing
pub set_back : (l : List ℕ) (i x y : ℕ) → l ! i ≡ y → set (set l i x) i y ≡ l
set_back l i x y e = set-set l i x y ∙ ap (λ (v : ℕ). set l i v) (sym e) ∙ set-get_or l i 0

-- seats with different words are different
pub differ : (l : List ℕ) {x y : ℕ} → l ! x ≢ l ! y → x ≢ y
differ l ne e = ne (ap (λ (i : ℕ). l ! i) e)

-- a run of stores and the run after it
pub sets_append : (l xs ys : List ℕ) (i : ℕ) → sets (sets l i xs) (i + length xs) ys ≡ sets l i (xs ++ ys)
sets_append l [] ys i = ap (λ (k : ℕ). sets l k ys) (add-zero i)
sets_append l (x ∷ xs) ys i =
    let next : i + suc (length xs) ≡ suc i + length xs = omega arith in
    ap (λ (k : ℕ). sets (sets l i (x ∷ xs)) k ys) next ∙ sets_append _ xs ys (suc i)
