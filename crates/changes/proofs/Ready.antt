-- A sound table allows the steps of a change.
use Rattle.promises.proofs.Prelude.{◌≡◌, ◌∙◌, sym, ◌≢◌, true, List, ℕ, ◌<◌, arith, length}
use Rattle.rules.specs.Table.{◌!◌, table_of}
use Rattle.rules.specs.Changes.{Leaves}
use Rattle.rules.specs.History.{Sound}
use Rattle.rules.specs.Ids.{occurs, place_of}
use Rattle.rules.proofs.Ids.{placed}
use Rattle.sound.specs.Test.{Test}
use Rattle.sound.proofs.Reached.{passes, named_in_use}
use Rattle.sound.proofs.Sound.{sound_legal, sound_table}

module _ (w : List ℕ) (s : Sound w) where
  pub long : 1 < length w
  long = omega (arith, (sound_legal s).shape)

  pub tested : Test (table_of w).bare
  tested = (passes (sound_table s)).test

  pub roomy : w ! 1 ≢ w ! 0 → w ! 1 < w ! 0
  roomy ne = omega (arith, tested.shape.most)

  pub place_below : (id : ℕ) → occurs id (table_of w).S ≡ true → place_of id (table_of w).S < w ! 0
  place_below id o = omega (arith, placed id (table_of w).S o, (passes (sound_table s)).ids.size)

  pub leaving : (id : ℕ) → id ≢ 0 → occurs id (table_of w).S ≡ true → w ! 1 ≢ 1 → Leaves (table_of w).bare (place_of id (table_of w).S)
  leaving id ne o other =
      let p = passes (sound_table s) in
      let below = place_below id o in
      record { below = below; in_use = named_in_use p below (λ z. ne (sym (placed id (table_of w).S o).1 ∙ z)); two = omega (arith, p.test.shape.some) }
