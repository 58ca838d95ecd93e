-- The promises of the exported functions leave one outcome each: the number, the lent values and the lent run or record.
use Rattle.promises.proofs.Prelude.{◌∙◌, sym, List, ℕ}
use Rattle.promises.specs.One.{One}
use Rattle.rules.specs.Answers.{Answer, Outcome}
use Rattle.steamacorn.specs.Exports.{Told, Changes}

pub one_told : (x : Answer) (before : List ℕ) → One (Told x before)
one_told x before o p t u =
    let number = t.number ∙ sym u.number in
    let values = t.values_out ∙ sym u.values_out in
    λ i. (number i, values i)

pub one_change : (x : Outcome) (before : List ℕ) → One (Changes x before)
one_change x before o p t u =
    let told = one_told x.answer before (o.0, o.1) (p.0, p.1) t.told u.told in
    let leaves = t.leaves ∙ sym u.leaves in
    λ i. ((told i).0, (told i).1, leaves i)
