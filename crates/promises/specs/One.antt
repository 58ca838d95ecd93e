-- Document 01, 'How tight the contracts are': "prove that no two differing outcomes satisfy it". A promise leaves one outcome: no two that meet it on the
-- same input differ. An outcome is the answer and each lent word and byte after the call.
use Rattle.std.specs.Prelude.{◌≡◌}

abbrev pub One : {O : Type 0} → (O → Type 0) → Type 0
One {O} P = (o p : O) → P o → P p → o ≡ p
