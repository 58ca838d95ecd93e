-- `moves::take_out_seat` meets its contract: its stores are those of `taken_out`.
use Rattle.promises.proofs.Prelude.{refl, ◌∙◌, ◌<◌}
use Rattle.moves.proofs.Stores.{out_last, out_place, taken_out}
use Rattle.moves.proofs.take_out_seat.Goals as goal
use Rattle.moves.proofs.take_out_seat.Goals.{After-get-position}

-- the seat that stands last, and the position of b, are below a
places : (p : After-get-position)
    → (p.get-last.result.0 < p.args.run.now.seats) × (p.get-position.result.0 < p.args.run.now.seats)
places p =
    let s = p.requires in
    (out_last s.0 s.1 refl s.2 p.get-last.ensures p.get-position.ensures, out_place s.0 s.1 refl s.2 p.get-last.ensures p.get-position.ensures)

pub close_up-requires : goal.close_up-requires
close_up-requires c =
    let p = places (goal.at.close_up-requires c).After-get-position in
    rw c.retire.ensures.keeps.seats (c.requires.2.below, p.0, p.1)

pub returns-clause-words : goal.returns-clause-words
returns-clause-words c =
    let s = c.requires in
    let e₁ = c.retire.ensures.keeps.seats in
    let e₂ = c.close_up.ensures.keeps.seats ∙ e₁ in
    taken_out s.0 s.1 refl s.2 c.get-last.ensures c.get-position.ensures c.retire.ensures.words (rw e₁ at c.close_up.ensures.words) (rw e₂ at c.put.ensures.words)
