-- The seat found is in use, since a rule ends only there; and on a sound table a seat in use has an id.
use Rattle.sound.proofs.Reached.{passes}
use Rattle.lookups.specs.InUse.{InUse}
use Rattle.lookups.proofs.Finds.{every}

pub theorem : InUse
theorem T r pick first picks i =
    let f = every T r pick first picks i in
    record { below = f.below; in_use = f.in_use; server = ((passes r).ids.some _ f.below f.in_use).0 }
