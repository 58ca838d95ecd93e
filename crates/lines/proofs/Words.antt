-- The word that a line begins with, and a number behind a space.
use Rattle.promises.proofs.Prelude.{◌≡◌, refl, inl, inr, true, false, cond, List, [], ◌∷◌, ◌++◌, ℕ, ◌≤◌, ◌<◌, ◌+◌, ◌^◌, arith, ℕ_discrete, length, drop, take, ap, ◌&&◌}
use Rattle.promises.proofs.Prelude.{length-append, eqb, ne_eqb, eq-eqb, eqb-true}
use Rattle.promises.proofs.Decided.{true_or_false, bool_cases, both}
use lib.Pointwise.{pointwise}
use Rattle.decimals.specs.Decimal.{decimal, got}
use Rattle.decimals.proofs.Opposites.{decimal_some, not_got, theorem as opposites}
use Rattle.lines.specs.Lines.{space, next, starts}

-- as std compares the front of a slice
pub starts_pointwise : (word l : List ℕ) → starts word l ≡ pointwise eqb (take (length word) l) word
unfolding starts
starts_pointwise [] l = refl
starts_pointwise (c ∷ w) [] = refl
starts_pointwise (c ∷ w) (b ∷ l) = ap (λ t. eqb b c && t) (starts_pointwise w l)

pub starts_append : (word l : List ℕ) → starts word l ≡ true → l ≡ word ++ drop (length word) l
unfolding starts
starts_append [] l e = refl
starts_append (c ∷ word) [] e = true_or_false false e refl
starts_append (c ∷ word) (b ∷ l) e = let h = both (eqb b c) (starts word l) e in cc (eqb-true b c h.0, starts_append word l h.1)

-- a statement of what follows the word, and of what the line is otherwise
pub starts_cases : {A : Type 0} (P : A → Type 0) (word l : List ℕ) {c d : A} → (starts word l ≡ true → P c) → P d → P (cond (starts word l) c d)
starts_cases P word l f k = elim (bool_cases (starts word l)) [ inl s ↦ rw s (f s) | inr s ↦ rw s k ]

-- what was read: a space, and the number as it is printed
pub record Got (lim : ℕ) (bs : List ℕ) (v : ℕ) (rest : List ℕ) : Type 0 where
  pub most : v ≤ lim
  pub text : bs ≡ space ∷ decimal v ++ rest
  pub shorter : 2 + length rest ≤ length bs

pub next_got : (lim : ℕ) (bs : List ℕ) {v : ℕ} {rest : List ℕ} → lim < 2 ^ 64 → next lim bs ≡ got v rest → Got lim bs v rest
unfolding next
next_got lim [] l e = not_got e
next_got lim (b ∷ bs) {v} {rest} l e = elim (ℕ_discrete b space) [
  | no s ↦ not_got (rw (ne_eqb b space s) at e)
  | yes s ↦
      let p = (opposites space lim v bs rest refl l).1 (rw (eq-eqb b space s) at e) in
      record { most = p.most; text = cc; shorter = rw p.text (simp length-append (omega (arith, decimal_some 19 v))) }
]
