-- `record::save_sound` meets its contract: each way out is one of `Saves`.
use Rattle.promises.proofs.Prelude.{◌-◌, ◌≤◌, arith, length}
use Rattle.rules.specs.Table.{◌!◌, table_of}
use Rattle.fields.specs.Form.{out_at, in_at}
use Rattle.fields.proofs.Places.{out_first, in_first, out_small, in_small}
use Rattle.sound.proofs.Sound.{sound_legal}
use Rattle.saved.proofs.Holds.{seats_all}
use Rattle.record.proofs.Saves.{good, save_room, save_done}
use Rattle.record.proofs.save_sound.Goals as goal
use Rattle.record.proofs.save_sound.Goals.{Else-out-len}

-- its head, its removals and all of it have room
room : (e : Else-out-len)
    → let s = e.args in
    let m = s.t.now ! 0 - s.t.now ! 1 in
    (out_at s.f 0 ≤ length s.out.now) × (out_at s.f m ≤ length s.out.now) × (in_at s.f m (s.t.now ! 1) ≤ length s.out.now)
room e =
    let s = e.args in
    let m = s.t.now ! 0 - s.t.now ! 1 in
    let fits = rw e.in_at-len.ensures at e.if-out-len.false in
    omega (arith, in_first s.f m (s.t.now ! 1), out_first s.f m)

pub overflow_sub-m : goal.overflow_sub-m
overflow_sub-m c = let p = c.requires in omega (arith, (good p.0 p.1).test.shape.most)

pub in_at-len-requires : goal.in_at-len-requires
in_at-len-requires c =
    let t = c.args.t.now in
    omega (arith, (sound_legal c.requires.0).shape, in_small c.args.f (t ! 0 - t ! 1) (t ! 1))

pub returns-then-out-len : goal.returns-then-out-len
returns-then-out-len c = save_room c.requires.0 c.requires.1 _ (rw c.in_at-len.ensures at c.if-out-len.true)

pub put_head-requires : goal.put_head-requires
put_head-requires c = (room (goal.at.put_head-requires c).Else-out-len).0

pub invariant_of-run : goal.invariant_of-run
invariant_of-run c = record { shape = (sound_legal c.requires.0).shape }

pub put_outs-requires : goal.put_outs-requires
put_outs-requires c = (omega arith, omega (arith, room (goal.at.put_outs-requires c).Else-out-len))

pub out_at-requires : goal.out_at-requires
out_at-requires c =
    let t = c.args.t.now in
    omega (arith, (sound_legal c.requires.0).shape, out_small c.args.f (t ! 0 - t ! 1))

pub put_ins-requires : goal.put_ins-requires
put_ins-requires c =
    rw c.out_at.ensures
    (omega (arith, seats_all c.args.f (table_of c.args.t.now) (good c.requires.0 c.requires.1), room (goal.at.put_ins-requires c).Else-out-len))

pub returns : goal.returns
returns c =
    rw c.in_at-len.ensures
    (save_done c.requires.0 c.requires.1 c.args.out.now (room (goal.at.returns c).Else-out-len).2 c.put_head.ensures c.put_outs.ensures
    (rw c.out_at.ensures at c.put_ins.ensures))
