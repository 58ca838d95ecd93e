-- The lines of an input are those that its bytes say: a byte more is a byte of the first line, or its end.
use Rattle.promises.proofs.Prelude.{◌≡◌, refl, subst, ◌≢◌, List, [], ◌∷◌, ◌++◌, ℕ, suc, zero, arith, ℕ_discrete, ne_eqb, eq-eqb}
use mathlib.Core.List.{cons-ne-nil}
use Rattle.lines.specs.Lines.{joins, lines_of}
use Rattle.lines.specs.LinesOf.{HasNoEnd, AreLines, none, ended, unended, LinesOf}

pub lines_of_ended : (l rest : List ℕ) → HasNoEnd l → lines_of (l ++ 10 ∷ rest) ≡ l ∷ lines_of rest
unfolding lines_of
lines_of_ended [] rest h = refl
lines_of_ended (b ∷ l) rest h = rw (ne_eqb b 10 (h 0), lines_of_ended l rest (λ i. h (suc i)))

pub lines_of_unended : (l : List ℕ) → HasNoEnd l → l ≢ [] → lines_of l ≡ l ∷ []
unfolding lines_of
lines_of_unended [] h some = absurd (some refl)
lines_of_unended (b ∷ []) h some = rw (ne_eqb b 10 (h 0))
lines_of_unended (b ∷ c ∷ l) h some = rw (ne_eqb b 10 (h 0), lines_of_unended (c ∷ l) (λ i. h (suc i)) (cons-ne-nil c l))

lines_of_lines : {input : List ℕ} {ls : List (List ℕ)} → AreLines input ls → lines_of input ≡ ls
unfolding lines_of
lines_of_lines none = refl
lines_of_lines (ended {l} {rest} h more) = rw (lines_of_ended l rest h, lines_of_lines more)
lines_of_lines (unended {l} h some) = lines_of_unended l h some

nil_no_end : HasNoEnd []
nil_no_end i e = omega arith

-- a byte more, that is no end
module _ (b : ℕ) (no_end : b ≢ 10) where
  cons_no_end : (l : List ℕ) → HasNoEnd l → HasNoEnd (b ∷ l)
  cons_no_end l h = elim [ zero ↦ no_end | suc i ↦ h i ]

  joins_lines : {input : List ℕ} {ls : List (List ℕ)} → AreLines input ls → AreLines (b ∷ input) (joins b ls)
  joins_lines none = unended (cons_no_end [] nil_no_end) (cons-ne-nil b [])
  joins_lines (ended {l} h more) = ended (cons_no_end l h) more
  joins_lines (unended {l} h some) = unended (cons_no_end l h) (cons-ne-nil b l)

lines_lines_of : (input : List ℕ) → AreLines input (lines_of input)
unfolding lines_of
lines_lines_of [] = none
lines_lines_of (b ∷ bs) = elim (ℕ_discrete b 10) [
  | yes e ↦ rw (eq-eqb b 10 e, e) (ended nil_no_end (lines_lines_of bs))
  | no e ↦ rw (ne_eqb b 10 e) (joins_lines b e (lines_lines_of bs))
]

pub theorem : LinesOf
theorem input ls = (λ e. subst (AreLines input) e (lines_lines_of input), lines_of_lines)
