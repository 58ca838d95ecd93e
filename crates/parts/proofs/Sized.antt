-- What `size_of` tells of a run.
use Rattle.std.specs.Prelude.{Some, None}
use Rattle.promises.proofs.Prelude.{◌≡◌, true, false, List, ℕ}
use Rattle.rules.specs.Table.{◌!◌, legal}
use Rattle.rules.specs.Runs.{Legal}
use Rattle.parts.specs.Shape.{size_of}
use Rattle.rules.proofs.Options.{none_there, one_there}
use Rattle.rules.proofs.Words.{is_legal_lem}

pub illegal : (w : List ℕ) → size_of w ≡ None → legal w ≡ false
unfolding size_of
illegal w = none_there (w ! 0) (legal w)

-- all that it tells where it answers a
pub told_seats : (w : List ℕ) (a : ℕ) → size_of w ≡ Some a → (legal w ≡ true) × Legal w a
unfolding size_of
told_seats w a e = let l = one_there (w ! 0) (legal w) e in (l.0, rw l.1 at (is_legal_lem w l.0))
