-- `transcript::run` meets its contract: too long an input is refused, another is answered line by line.
use Rattle.promises.proofs.Prelude.{refl, arith, length, le-ltb, lt-ltb}
use Rattle.transcript.specs.Transcript.{most_input, transcript}
use Rattle.transcript.specs.Written.{Written}
use Rattle.transcript.proofs.Turns.{adds_written, written_counts}
use Rattle.transcript.proofs.run.Goals as goal
use Rattle.transcript.proofs.run.Goals.{Joined-is_long, then-is_long, else-is_long}

written : (c : Joined-is_long) →
    let out = c.if-is_long.output in
    Written (transcript c.args.input.now) c.args.out.now (out.len, out.bytes.now)
unfolding transcript
written c = elim c.if-is_long.branch [
  | then-is_long w ↦ rw (w.output-is, lt-ltb most_input (length c.args.input.now) (omega arith)) (adds_written refl w.put_reply.ensures.adds)
  | else-is_long w ↦ rw (w.output-is, le-ltb most_input (length c.args.input.now) (omega arith)) (adds_written refl w.put_replies.ensures)
]

pub returns-clause-written : goal.returns-clause-written
returns-clause-written c = written (goal.at.returns-clause-written c).Joined-is_long

pub returns-clause-prefix_len : goal.returns-clause-prefix_len
returns-clause-prefix_len c = written_counts (written (goal.at.returns-clause-prefix_len c).Joined-is_long)
