-- `fields::number_at` meets its contract: the bytes of the part are those of the whole, and fewer than four have a number below 256^3.
use Rattle.promises.proofs.Prelude.{◌≡◌, List, ℕ, ◌<◌, ◌+◌, ◌^◌, arith}
use native.Mathlib.Nat.{pow-le-pow_right}
use Rattle.rules.specs.Table.{◌!◌}
use Rattle.fields.specs.Numbers.{number_at}
use Rattle.fields.proofs.Numbers.{byte_of_part, number_more, number_below}
use Rattle.fields.proofs.number_at.Goals as goal

below : (s : List ℕ) (at i x : ℕ) → ((k : ℕ) → s ! k < 256) → i < 4 → x ≡ number_at s at i → x < 256 ^ 3
below s at i x byte h e =
    let small = pow-le-pow_right {n = 256} (omega arith) {i = i} {j = 3} (omega arith) in
    omega (arith, number_below s byte i at)

pub overflow_mul-x : goal.overflow_mul-x
overflow_mul-x c =
    omega (arith, below c.args.s.now c.args.at c.loop-byte.byte-index c.loop-byte.x (λ k. omega (arith, c.type_inv.s k)) (omega arith) c.loop-byte.invariant)

pub overflow_add-x : goal.overflow_add-x
overflow_add-x c =
    let i = c.loop-byte.byte-index in
    omega (
      arith,
      below c.args.s.now c.args.at i c.loop-byte.x (λ k. omega (arith, c.type_inv.s k)) (omega arith) c.loop-byte.invariant,
      byte_of_part c.args.s.now c.args.at c.args.width i (omega arith),
      c.type_inv.s (c.args.at + i),
    )

pub loop-byte-preserved : goal.loop-byte-preserved
loop-byte-preserved c =
    number_more c.args.s.now c.args.at c.loop-byte.byte-index _ _ c.loop-byte.invariant
    (byte_of_part c.args.s.now c.args.at c.args.width c.loop-byte.byte-index (omega arith))
