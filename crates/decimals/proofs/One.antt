-- The promises of reading and of putting leave one outcome.
use Rattle.promises.proofs.Prelude.{refl, List, ℕ}
use Rattle.std.specs.Prelude.{Some, None}
use Rattle.promises.specs.One.{One}
use Rattle.decimals.specs.Decimal.{Read}
use Rattle.decimals.specs.Places.{Reads, Put}

pub one_read_number : (x : Read) → One (Reads x)
one_read_number x (Some (v, rest)) (Some (w, more)) h k = cc
one_read_number x (Some p) None h k = cc
one_read_number x None (Some q) h k = cc
one_read_number x None None h k = refl

pub one_put : (bs : List ℕ) (at : ℕ) (before : List ℕ) → One (Put bs at before)
one_put bs at before (n, l) (m, k) p q = cc
