-- The audit says yes exactly for sound tables.
use Rattle.promises.proofs.Prelude.{◌≡◌, refl, ap, true, false, Bool, not, List, [], ◌∷◌, ℕ, arith}
use Rattle.rules.specs.Table.{legal}
use Rattle.rules.specs.History.{Sound}
use Rattle.rules.specs.Answers.{Answer, fine, refused, ◌⇒◌, first_that}
use Rattle.rules.specs.declared.Refusal.TheVariants.{Size, Damaged}
use Rattle.rules.proofs.Words.{legal_is}
use Rattle.sound.proofs.Sound.{sound?, sound_legal}
use Rattle.audit.specs.Audit.{is_sound, audit_call}
use Rattle.promises.specs.Decides.{decided}
use Rattle.demands.specs.Audit.{Audit}

module _ (w : List ℕ) where
  abbrev says : Bool → Dec (Sound w) → Answer
  says l d = first_that (not l ⇒ Size ∷ not (decided d) ⇒ Damaged ∷ []) refused (fine [])

  yes_sound : (l : Bool) (d : Dec (Sound w)) → says l d ≡ fine [] → Sound w
  yes_sound false d e = absurd (omega (arith, ap (λ (x : Answer). x.number) e))
  yes_sound true (no n) e = absurd (omega (arith, ap (λ (x : Answer). x.number) e))
  yes_sound true (yes s) e = s

  sound_yes : (d : Dec (Sound w)) → Sound w → says true d ≡ fine []
  sound_yes (no n) s = absurd (n s)
  sound_yes (yes t) s = refl

pub theorem : Audit
unfolding audit_call is_sound
theorem w = (yes_sound w (legal w) (sound? w), λ s. rw (legal_is w (sound_legal s)) (sound_yes w (sound? w) s))
