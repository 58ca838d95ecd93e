-- `Output::put_values` meets its contract. The loop's invariant: the first numbers stand.
use Rattle.promises.proofs.Prelude.{◌≡◌, refl, arith, length, rules}
use lib.Seq.{take-length}
use Rattle.decimals.proofs.Stored.{put_length}
use Rattle.lines.specs.Lines.{spaced}
use Rattle.transcript.proofs.Saying.{adds_then, spaced_take, spaced_room}
use Rattle.transcript.proofs.Output.put_values.Goals as goal

pub loop-v-init : goal.loop-v-init
unfolding spaced
loop-v-init c = record { put = record { fits = search rules; next = search rules; bytes = refl }; same = refl }

pub put_value-requires : goal.put_value-requires
unfolding spaced
put_value-requires c = omega (arith, spaced_room c.args.values.now c.loop-v.v-index c.loop-v-test.true, put_length c.loop-v.invariant.put)

pub loop-v-preserved : goal.loop-v-preserved
unfolding spaced
loop-v-preserved c = rw (← spaced_take _ _ c.loop-v-test.true) at (adds_then c.loop-v.invariant c.put_value.ensures)

pub returns : goal.returns
returns c = let all : c.loop-v.v-index ≡ length c.args.values.now = omega arith in rw (all, take-length) at c.loop-v.invariant
