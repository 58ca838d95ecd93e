-- The promise of seating leaves one outcome.
use Rattle.promises.proofs.Prelude.{◌∙◌, sym, ℕ}
use Rattle.promises.specs.One.{One}
use Rattle.rules.specs.Table.{Table}
use Rattle.moves.specs.Moves.{LastSeated}

pub one_seated : (table : Table) (id : ℕ) → One (LastSeated table id)
one_seated table id o p h j =
    let e = h.seat ∙ sym j.seat in
    let f = h.run ∙ sym j.run in
    λ i. (record { 0 = e i }, f i)
