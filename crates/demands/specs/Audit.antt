-- Demand 2: "The audit says yes exactly for sound tables." Whatever the words are: if it answers 0 they are sound, and if they are sound it answers 0.
use Rattle.std.specs.Prelude.{◌≡◌, List, [], ℕ}
use Rattle.rules.specs.History.{Sound}
use Rattle.rules.specs.Answers.{fine}
use Rattle.audit.specs.Audit.{audit_call}

abbrev pub Audit : Type 0
Audit = (w : List ℕ) → (audit_call w ≡ fine [] → Sound w) × (Sound w → audit_call w ≡ fine [])
