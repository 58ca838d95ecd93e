-- `form::Head::read` meets its contract: each way out has met, or missed, what `HeadFits` names.
use Rattle.promises.proofs.Prelude.{◌-◌, arith}
use Rattle.fields.proofs.Places.{in_small}
use Rattle.form.proofs.Head.read.Goals as goal

pub in_at-requires : goal.in_at-requires
in_at-requires c =
    omega (arith, in_small c.args.form (c.first_at-seats.result - c.number_at-used.result) c.number_at-used.result)
