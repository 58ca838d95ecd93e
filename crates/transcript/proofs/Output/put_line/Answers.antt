-- `Output::put_line` meets its contract: a word, numbers and LF, one behind the other.
use Rattle.promises.proofs.Prelude.{arith}
use Rattle.decimals.proofs.Stored.{put_length}
use Rattle.transcript.proofs.Saying.{adds_then, said_length}
use Rattle.transcript.proofs.Output.put_line.Goals as goal

pub put_values-requires : goal.put_values-requires
put_values-requires c = omega (arith, said_length c.args.word.now c.args.values.now, put_length c.put.ensures.put)

pub put-requires-2 : goal.put-requires-2
put-requires-2 c = omega (arith, said_length c.args.word.now c.args.values.now, put_length c.put.ensures.put, put_length c.put_values.ensures.put)

pub returns : goal.returns
returns c = adds_then (adds_then c.put.ensures c.put_values.ensures) c.put-2.ensures
