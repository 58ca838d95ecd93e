-- Draws and walks are few on any table, since each redraw leads to a seat with a smaller A.
use Rattle.promises.proofs.Prelude.{◌≡◌, refl, ap, true, false, Bool, cond, not, List, [], ◌∷◌, ℕ, ◌+◌, zero, suc, arith, length, eqb}
use native.Mathlib.Nat.{mod-lt}
use Rattle.rules.specs.Table.{◌!◌, table_of, legal}
use Rattle.rules.specs.Keys.{hash₁, first_of, pick_of, on, Walk, at, lost, Looked, found, damaged, redraw, onward, lookup, array_rule}
use Rattle.rules.specs.Answers.{Answer, fine, refused, ◌⇒◌, first_that}
use Rattle.rules.specs.declared.Refusal.TheVariants.{Size, Damaged}
use Rattle.rules.proofs.Numbers.{not_fine}
use Rattle.rules.proofs.Words.{is_legal_lem, part_length}
use Rattle.find.specs.Find.{served, find_call}
use Rattle.find.specs.Bounds.{Bounded, Bounds}
use Rattle.find.proofs.Redraws.{SoFar, so_far_first, so_far_goes, so_far_bounded}

module _ (A K : List ℕ) (pick : ℕ → ℕ → ℕ) where
  -- what is found, is found after few draws and follows
  abbrev EndsSo : Looked → Type 0
  EndsSo (found g walks) = SoFar A g.seat g.draws walks
  EndsSo damaged = Unit {0}

  onward_so_far : (w : Walk) (next : ℕ → ℕ → Looked) → ((x n : ℕ) → w ≡ at x n → EndsSo (next x n)) → EndsSo (onward w next)
  onward_so_far lost next h = tt
  onward_so_far (at x n) next h = h x n refl

  lookup_so_far : (fuel d f b : ℕ) → SoFar A b d f → EndsSo (lookup A K pick fuel d f b)
  unfolding lookup
  lookup_so_far zero d f b s = s
  lookup_so_far (suc fuel) d f b s =
      let next : ℕ → ℕ → Looked = λ x n. lookup A K pick fuel (d + 1) (f + n) x in
      elim (eqb (A ! b) 0) as (λ t. EndsSo (cond t (found (on b d) f) (onward (redraw A K pick b) next))) [
        | true ↦ s
        | false ↦ onward_so_far (redraw A K pick b) next (λ x n e. lookup_so_far fuel (d + 1) (f + n) x (so_far_goes K pick s e))
      ]

  -- and so answered: the draws and the walks are the third value and the fourth
  bounded : (S vs : List ℕ) (l : Looked) → EndsSo l → served S l ≡ fine vs → Bounded (length A) (vs ! 2) (vs ! 3)
  bounded S vs damaged s e = not_fine Damaged _ e
  bounded S vs (found g n) s e = go (eqb (S ! g.seat) 0) e
    where
      go : (t : Bool) → cond t (refused Damaged) (fine (g.seat ∷ S ! g.seat ∷ g.draws ∷ n ∷ [])) ≡ fine vs → Bounded (length A) (vs ! 2) (vs ! 3)
      go true e = not_fine Damaged _ e
      go false e = rw (← ap (λ (x : Answer). x.values) e) (so_far_bounded s)

legal_fine : {vs : List ℕ} (t : Bool) (x : Answer) → first_that (not t ⇒ Size ∷ []) refused x ≡ fine vs → (t ≡ true) × (x ≡ fine vs)
legal_fine true x e = (refl, e)
legal_fine false x e = not_fine Size _ e

pub theorem : Bounds
unfolding find_call
theorem w k b server draws walks e =
    let U = (table_of w).bare in
    let first = first_of k (w ! 0) in
    let looked = array_rule U (pick_of k) first in
    let (is, f) = legal_fine (legal w) (served (table_of w).S looked) e in
    let l = is_legal_lem w is in
    let size = part_length w 0 l.shape.size (omega arith) in
    let begins = so_far_first U.A first (omega (arith, size, mod-lt (hash₁ k) l.some)) in
    rw size at (bounded U.A U.K (pick_of k) (table_of w).S _ looked (lookup_so_far U.A U.K (pick_of k) (U.A ! first) 1 0 first begins) f)
