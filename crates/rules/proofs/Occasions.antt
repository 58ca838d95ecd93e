-- The one law of `first_that`: it answers the first refusal that applies, or what is done where none does. So an answer that is no refusal
-- tells that none applied.
use Rattle.promises.proofs.Prelude.{◌≡◌, refl, ◌∙◌, ap, inl, inr, ◌⊎◌, true, false, Bool, List, [], ◌∷◌, ℕ}
use Rattle.promises.proofs.Decided.{true_or_false}
use Rattle.rules.specs.Answers.{Outcome, refused_at, done, Occasion, ◌⇒◌, first_that, Free, none, more}
use Rattle.rules.specs.declared.Refusal.{Refusal}
use Rattle.rules.proofs.Numbers.{not_fine}

-- r is the first that applies
pub data First (r : Refusal) : List Occasion → Type 0 where
  here : {t : Bool} {os : List Occasion} → t ≡ true → First r ((t ⇒ r) ∷ os)
  later : {t : Bool} {q : Refusal} {os : List Occasion} → t ≡ false → First r os → First r ((t ⇒ q) ∷ os)

-- one more occasion of the same refusal before it
pub also : {r : Refusal} {os : List Occasion} (t : Bool) → First r os → First r ((t ⇒ r) ∷ os)
also true f = here refl
also false f = later refl f

module _ {X : Type 0} (refuse : Refusal → X) (x : X) where
  pub first_is : {r : Refusal} {os : List Occasion} → First r os → refuse r ≡ first_that os refuse x
  first_is (here e) = rw e refl
  first_is (later e f) = rw e (first_is f)

  pub free_is : {os : List Occasion} → Free os → x ≡ first_that os refuse x
  free_is none = refl
  free_is (more e f) = rw e (free_is f)

pub sorted : (os : List Occasion) → Free os ⊎ ((r : Refusal) × First r os)
sorted [] = inl none
sorted ((true ⇒ r) ∷ os) = inr (r, here refl)
sorted ((false ⇒ r) ∷ os) = elim (sorted os) [
  | inl f ↦ inl (more refl f)
  | inr f ↦ inr (f.0, later refl f.1)
]

-- the occasions of a call that is done
pub done_free : {v vs : List ℕ} (w : List ℕ) (x : Outcome) (os : List Occasion) → first_that os (refused_at w) x ≡ done vs v → Free os × (x ≡ done vs v)
done_free {vs = vs} w x os e = elim (sorted os) [
  | inl f ↦ (f, free_is _ _ f ∙ e)
  | inr f ↦ not_fine f.0 vs (ap (λ (o : Outcome). o.answer) (first_is _ _ f.1 ∙ e))
]

-- occasions that can be computed
pub computed_free : (os : List Occasion) → first_that os (λ r. false) true ≡ true → Free os
computed_free os e = elim (sorted os) [ inl f ↦ f | inr f ↦ true_or_false false (first_is _ _ f.1 ∙ e) refl ]
