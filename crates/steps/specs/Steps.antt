-- What a step leaves beside the word that it stores.
use Rattle.std.specs.Prelude.{◌≡◌}
use Rattle.steps.specs.declared.RunMut.{RunMut}

-- the same run is lent, for as many seats
pub record Keeps (before after : RunMut) : Type 0 where
  pub seats : after.seats ≡ before.seats
  pub lent : after.words.ghost_name ≡ before.words.ghost_name
