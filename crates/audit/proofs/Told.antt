-- What the audit's answer tells a call that asks it first: the same refusal, or a sound table.
use Rattle.promises.proofs.Prelude.{◌≡◌, refl, ◌∙◌, sym, ap, inl, inr, true, false, Bool, not, List, [], ◌++◌, ℕ}
use Rattle.rules.specs.History.{Sound}
use Rattle.std.specs.Prelude.{Result, Ok}
use Rattle.rules.specs.Answers.{fine, Says, refused, Outcome, refused_at, Occasion, first_that, Free, none, more}
use Rattle.rules.specs.declared.Refusal.{Refusal}
use Rattle.rules.proofs.Numbers.{not_fine, refused_injective}
use Rattle.rules.proofs.Occasions.{First, here, later, first_is, free_is, sorted}
use Rattle.rules.proofs.Words.{legal_is}
use Rattle.sound.proofs.Sound.{sound?, sound_legal}
use Rattle.promises.proofs.Decided.{true_or_false, true_yes}
use Rattle.audit.specs.Audit.{is_sound, audited_answer, audit_refusals, audit_call}
use Rattle.audit.proofs.Answers.{is_sound_lem}

before : {r : Refusal} {os : List Occasion} (rest : List Occasion) → First r os → First r (os ++ rest)
before rest (here e) = here e
before rest (later e f) = later e (before rest f)

not_not : (t : Bool) → not t ≡ false → t ≡ true
not_not true e = refl
not_not false e = true_or_false true refl e

module _ (w : List ℕ) where
  -- the audit refuses, and so does a call that asks its occasions first
  pub refused_first : (keep : List ℕ) (os : List Occasion) (x : Outcome) (r : Refusal) → refused r ≡ audit_call w → refused_at keep r ≡ first_that (audit_refusals w ++ os) (refused_at keep) x
  unfolding audit_call
  refused_first keep os x r e = elim (sorted (audit_refusals w)) [
    | inl f ↦ not_fine r [] (e ∙ sym (free_is refused (fine []) f))
    | inr f ↦ ap (refused_at keep) (refused_injective r f.0 (e ∙ sym (first_is refused (fine []) f.1))) ∙ first_is (refused_at keep) x (before os f.1)
  ]

  -- the audit is fine, and the table is sound
  pub fine_sound : fine [] ≡ audit_call w → Sound w
  unfolding audit_call is_sound
  fine_sound e = elim (sorted (audit_refusals w)) [ inl f ↦ go f | inr f ↦ not_fine f.0 [] (first_is refused (fine []) f.1 ∙ sym e) ]
    where
      go : Free (audit_refusals w) → Sound w
      go (more l (more s none)) = true_yes (sound? w) (not_not (is_sound w) s)

module _ {w : List ℕ} (s : Sound w) where
  -- of a sound table the audit refuses nothing
  pub sound_later : {r : Refusal} {os : List Occasion} → First r os → First r (audit_refusals w ++ os)
  sound_later f = later (ap not (legal_is w (sound_legal s))) (later (ap not (is_sound_lem w s)) f)

  pub sound_free : {os : List Occasion} → Free os → Free (audit_refusals w ++ os)
  sound_free f = more (ap not (legal_is w (sound_legal s))) (more (ap not (is_sound_lem w s)) f)

pub after_audit : (w : List ℕ) {os : List Occasion} → Free (audit_refusals w ++ os) → Free os
after_audit w (more l (more s f)) = f

-- what a call has that asks the audit first, and goes on where it is fine
pub audited : {w : List ℕ} {r : Result (Unit {0}) Refusal} {u : Unit {0}} → Says audited_answer (audit_call w) r → r ≡ Ok u → Sound w
audited {w} e ok = fine_sound w (rw ok at e)
