-- `form::form_of` meets its contract: there is one form.
use Rattle.promises.proofs.Prelude.{arith}
use Rattle.fields.proofs.Places.{one}
use Rattle.form.proofs.Told.{form_told}
use Rattle.form.proofs.form_of.Goals as goal

pub returns : goal.returns
returns c =
    form_told _ _ (λ i. omega (arith, c.type_inv.s i)) (λ none f. rw (← one f) none) _ c.form_in.ensures
