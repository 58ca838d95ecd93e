-- Document 01, 'Numbers a call can answer': the audit, 1, 5. SIZE where the words have no legal shape, DAMAGED where they are not sound, else 0 with no value.
use Rattle.std.specs.Prelude.{Bool, not, List, [], ◌∷◌, ℕ, Result}
use Rattle.rules.specs.Table.{legal}
use Rattle.rules.specs.History.{Sound}
use Rattle.rules.specs.Answers.{Answer, fine, refused, result_answer, Occasion, ◌⇒◌, first_that}
use Rattle.rules.specs.declared.Refusal.{Refusal}
use Rattle.rules.specs.declared.Refusal.TheVariants.{Size, Damaged}
use Rattle.sound.proofs.Sound.{sound?}
use Rattle.promises.specs.Decides.{decided}

-- are these words sound? `sound?` decides it: it is a proof of `Sound w`, or of its contrary
unfoldable pub is_sound : List ℕ → Bool
is_sound w = decided {P = Sound w} (sound? w)

-- the number and the values of each answer
abbrev pub audited_answer : Result (Unit {0}) Refusal → Answer
audited_answer = result_answer (λ _. [])

-- what every call that reads or changes a table, but find, asks of its run first
abbrev pub audit_refusals : List ℕ → List Occasion
audit_refusals w = not (legal w) ⇒ Size ∷ not (is_sound w) ⇒ Damaged ∷ []

unfoldable pub audit_call : List ℕ → Answer
unfolding is_sound
audit_call w = first_that (audit_refusals w) refused (fine [])
