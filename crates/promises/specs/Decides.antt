-- What a test that answers yes or no says of a statement: yes is a proof of it, and no is a proof of its contrary. So a test is neither too weak nor too
-- strong.
use Rattle.std.specs.Prelude.{Bool, true, false}

abbrev pub Decides : Bool → Type 0 → Type 0
Decides true P = P
Decides false P = P → ⊥

-- the answer of a decision
abbrev pub decided : {P : Type 0} → Dec P → Bool
decided (yes p) = true
decided (no n) = false
