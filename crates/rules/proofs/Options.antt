-- A value that is there where a test holds.
use Rattle.std.specs.Prelude.{Some, None}
use Rattle.promises.proofs.Prelude.{◌≡◌, refl, true, false, Bool, cond}

module _ {X : Type 0} (x : X) where
  pub none_there : (t : Bool) → cond t (Some x) None ≡ None → t ≡ false
  none_there true e = cc
  none_there false e = refl

  pub one_there : (t : Bool) {y : X} → cond t (Some x) None ≡ Some y → (t ≡ true) × (x ≡ y)
  one_there true e = (refl, cc)
  one_there false e = cc
