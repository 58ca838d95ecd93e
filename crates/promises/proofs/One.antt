-- The shapes of a promise that leave one outcome. `o ≡ x` is the promise of every function whose outcome is given outright.
use mathlib.Core.Path.{◌≡◌, refl, sym, ◌∙◌}
use mathlib.Core.Bool.{Bool, true, false}
use Rattle.promises.specs.One.{One}
use Rattle.promises.specs.Decides.{Decides}

pub one_equal : {O : Type 0} (x : O) → One (λ (o : O). o ≡ x)
one_equal x o p h k = h ∙ sym k

-- a reading of the outcome that loses nothing
pub one_read : {O X : Type 0} (read : O → X) → ((o p : O) → read o ≡ read p → o ≡ p) → (x : X) → One (λ (o : O). read o ≡ x)
one_read read apart x o p h k = apart o p (h ∙ sym k)

pub one_decides : (P : Type 0) → One (λ (r : Bool). Decides r P)
one_decides P true true h k = refl
one_decides P true false h k = absurd (k h)
one_decides P false true h k = absurd (h k)
one_decides P false false h k = refl
