-- `Output::put_value` meets its contract: a space, and the digits.
use Rattle.promises.proofs.Prelude.{refl, arith}
use Rattle.decimals.proofs.Stored.{put_then, put_length}
use Rattle.transcript.proofs.Saying.{put_rest}
use Rattle.transcript.proofs.Output.put_value.Goals as goal

pub returns : goal.returns
returns c =
    let p = c.put.ensures.put in
    let digits = rw c.from.ensures at c.put_decimal.ensures in
    record { put = put_then p (put_rest _ _ (omega (arith, put_length p)) refl digits); same = c.put.ensures.same }
