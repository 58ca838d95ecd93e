-- `Output::put` meets its contract.
use Rattle.promises.proofs.Prelude.{refl, arith}
use Rattle.transcript.proofs.Saying.{put_part}
use Rattle.transcript.proofs.Output.put.Goals as goal

pub returns : goal.returns
returns c = record { put = put_part _ _ _ _ c.requires (omega arith) c.copy_from_slice.ensures.after; same = refl }
