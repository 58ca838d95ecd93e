-- No two draws of a key are the same output: the generator tells outputs with different numbers apart.
use Rattle.promises.proofs.Prelude.{arith}
use Rattle.splitmix.proofs.Injective.{output_tells}
use Rattle.rules.specs.DrawsApart.{FirstApart, SeatsApart}

pub first_apart : FirstApart
first_apart k b h e = absurd (omega (arith, output_tells k _ _ e (omega arith) (omega arith)))

pub seats_apart : SeatsApart
seats_apart k b c h l ne e = ne (omega (arith, output_tells k _ _ e (omega arith) (omega arith)))
