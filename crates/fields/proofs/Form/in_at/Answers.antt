-- `fields::in_at` meets its contract: the place is the lengths before it.
use Rattle.promises.proofs.Prelude.{ℕ, ◌+◌, ◌*◌, ap, arith}
use Rattle.fields.proofs.Places.{in_is}
use Rattle.fields.proofs.Form.in_at.Goals as goal

pub out_at-requires : goal.out_at-requires
out_at-requires c = omega (arith, in_is c.args.self c.args.m c.args.j)

pub overflow_mul-result : goal.overflow_mul-result
overflow_mul-result c = omega (arith, in_is c.args.self c.args.m c.args.j, ap (λ (n : ℕ). (n + 4) * c.args.j) c.second.ensures)

pub overflow_add-result-2 : goal.overflow_add-result-2
overflow_add-result-2 c = omega (arith, in_is c.args.self c.args.m c.args.j, ap (λ (n : ℕ). (n + 4) * c.args.j) c.second.ensures)

pub returns : goal.returns
returns c =
    rw (c.out_at.ensures, c.second.ensures) (omega (arith, in_is c.args.self c.args.m c.args.j))
