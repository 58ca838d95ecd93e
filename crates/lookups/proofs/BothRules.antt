-- Both rules agree, since they go from seat to seat together.
use Rattle.lookups.specs.BothRules.{BothRules}
use Rattle.lookups.proofs.Finds.{every}

pub theorem : BothRules
theorem T r pick first picks i = let f = every T r pick first picks i in (f.walks, f.agrees)
