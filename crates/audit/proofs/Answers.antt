-- The audit's answer, by what is known of the run.
use Rattle.promises.proofs.Prelude.{◌≡◌, refl, sym, subst, true, false, List, [], ℕ, ◌<◌, ◌^◌}
use Rattle.rules.specs.Table.{◌!◌, table_for, legal}
use Rattle.rules.specs.History.{Sound}
use Rattle.rules.specs.Ids.{repeats}
use Rattle.rules.specs.Answers.{fine, refused}
use Rattle.rules.specs.declared.Refusal.TheVariants.{Size, Damaged}
use Rattle.rules.specs.Runs.{Legal}
use Rattle.rules.proofs.Words.{is_legal_lem}
use Rattle.parts.specs.Shape.{size_of}
use Rattle.std.specs.Prelude.{Some}
use Rattle.parts.proofs.Sized.{told_seats}
use Rattle.sound.proofs.Sound.{sound?}
use Rattle.promises.proofs.Decided.{true_or_false, yes_true, no_false}
use Rattle.audit.specs.Pass.{HeadPasses, Counted, AllPass}
use Rattle.audit.proofs.Exact.{Pass, pass_sound, sound_pass}
use Rattle.audit.specs.Audit.{is_sound, audit_call}

module _ (w : List ℕ) where
  pub is_sound_lem : Sound w → is_sound w ≡ true
  unfolding is_sound
  is_sound_lem s = yes_true (sound? w) s

  pub not_sound : (Sound w → ⊥) → is_sound w ≡ false
  unfolding is_sound
  not_sound n = no_false (sound? w) n

  pub audit_size : legal w ≡ false → refused Size ≡ audit_call w
  unfolding audit_call
  audit_size l = rw l refl

  module _ (l : legal w ≡ true) where
    pub audit_damaged : (Sound w → ⊥) → refused Damaged ≡ audit_call w
    unfolding audit_call
    audit_damaged n = rw (l, not_sound n) refl

    pub audit_fine : Sound w → fine [] ≡ audit_call w
    unfolding audit_call
    audit_fine s = rw (l, is_sound_lem s) refl

-- the same, by what the code has seen of a run for a seats
module _ (w : List ℕ) (a : ℕ) (size : size_of w ≡ Some a) where
  is_legal : legal w ≡ true
  is_legal = (told_seats w a size).0

  pub known : Legal w a
  known = (told_seats w a size).1

  pub counted : (n : ℕ) → n ≡ w ! 1 → HeadPasses w a → Counted w a n
  counted n e h = record { shape = known.shape; is_N = sym e; head = h }

  refuse : (Pass w a → ⊥) → refused Damaged ≡ audit_call w
  refuse n = audit_damaged w is_legal (λ s. n (subst (Pass w) known.first (sound_pass w (is_legal_lem w is_legal) s)))

  pub head_fails : (HeadPasses w a → ⊥) → refused Damaged ≡ audit_call w
  head_fails n = refuse (λ p. n p.head)

  pub one_fails : (AllPass (table_for a w) a → ⊥) → refused Damaged ≡ audit_call w
  one_fails n = refuse (λ p. n p.all)

  pub id_twice : repeats (table_for a w).S ≡ true → refused Damaged ≡ audit_call w
  id_twice r = refuse (λ p. true_or_false (repeats (table_for a w).S) r p.once)

  pub all_well : ((i : ℕ) → w ! i < 2 ^ 32) → HeadPasses w a → AllPass (table_for a w) a → repeats (table_for a w).S ≡ false → fine [] ≡ audit_call w
  all_well word h p r =
      audit_fine w is_legal (pass_sound w (is_legal_lem w is_legal) (subst (Pass w) (sym known.first) (record { head = h; all = p; once = r })) word)
