-- `form::Head::server_place` meets its contract: the record ends within the bytes.
use Rattle.promises.proofs.Prelude.{arith}
use Rattle.form.proofs.Told.{in_room}
use Rattle.form.proofs.Head.server_place.Goals as goal

pub in_at-requires : goal.in_at-requires
in_at-requires c = rw c.removals.ensures (omega (arith, in_room c.args.self.now c.args.j c.requires))

pub overflow_add-result : goal.overflow_add-result
overflow_add-result c = rw (c.in_at.ensures, c.removals.ensures) (omega (arith, in_room c.args.self.now c.args.j c.requires))

pub returns-clause-room : goal.returns-clause-room
returns-clause-room c = rw (c.in_at.ensures, c.removals.ensures) (omega (arith, in_room c.args.self.now c.args.j c.requires))
