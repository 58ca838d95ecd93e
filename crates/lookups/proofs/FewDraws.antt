-- The draws are few, since A falls at each redraw and is at least N until it is 0.
use Rattle.promises.proofs.Prelude.{arith}
use Rattle.lookups.specs.FewDraws.{FewDraws}
use Rattle.lookups.proofs.Finds.{every}

pub theorem : FewDraws
theorem T r pick first picks i = let f = every T r pick first picks i in record { some = omega arith; most = omega arith }
