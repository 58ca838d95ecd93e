-- `fields::out_at` meets its contract: the place is the lengths before it.
use Rattle.promises.proofs.Prelude.{ℕ, ◌*◌, ap, arith}
use Rattle.fields.proofs.Places.{out_is}
use Rattle.fields.proofs.Form.out_at.Goals as goal

pub overflow_mul-result : goal.overflow_mul-result
overflow_mul-result c = omega (arith, out_is c.args.self c.args.i, ap (λ (n : ℕ). n * c.args.i) c.second-2.ensures)

pub overflow_add-result-2 : goal.overflow_add-result-2
overflow_add-result-2 c = omega (arith, out_is c.args.self c.args.i, ap (λ (n : ℕ). n * c.args.i) c.second-2.ensures)

pub returns : goal.returns
returns c =
    rw (c.second.ensures, c.width.ensures, c.second-2.ensures) (omega (arith, out_is c.args.self c.args.i))
