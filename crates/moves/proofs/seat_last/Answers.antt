-- `moves::seat_last` meets its contract: its stores are those of `seated`.
use Rattle.promises.proofs.Prelude.{refl, ◌∙◌, ◌<◌}
use Rattle.moves.proofs.Stores.{is_out, out_below, last_below, back_place, seated}
use Rattle.moves.proofs.seat_last.Goals as goal
use Rattle.moves.proofs.seat_last.Goals.{After-get-last, After-get-position}

-- the last seat out, and the seat that stands after the line, are below a
places : (w : After-get-last)
    → (w.get-b.result.0 < w.args.run.now.seats) × (w.get-last.result.0 < w.args.run.now.seats)
places w =
    let s = w.requires in
    (out_below s.0 s.1 refl s.2 w.get-b.ensures w.get-last.ensures, last_below s.0 s.1 refl s.2 w.get-b.ensures w.get-last.ensures)

-- the position of the seat, read after L has its word back, is in the line
place : (p : After-get-position) → p.get-position.result.0 < p.args.run.now.seats
place p =
    let s = p.requires in
    back_place s.0 s.1 refl s.2 p.get-b.ensures p.get-last.ensures p.restore.ensures.words (rw p.restore.ensures.keeps.seats at p.get-position.ensures)

pub restore-requires : goal.restore-requires
restore-requires c =
    let p = places (goal.at.restore-requires c).After-get-last in
    (p.0, p.1, c.requires.2)

pub get-position-requires : goal.get-position-requires
get-position-requires c = rw c.restore.ensures.keeps.seats (places (goal.at.get-position-requires c).After-get-last).0

pub open_up-requires : goal.open_up-requires
open_up-requires c =
    rw c.restore.ensures.keeps.seats ((places (goal.at.open_up-requires c).After-get-last).0, place (goal.at.open_up-requires c).After-get-position, c.requires.2)

pub put-requires : goal.put-requires
put-requires c =
    rw (c.open_up.ensures.keeps.seats, c.restore.ensures.keeps.seats) (places (goal.at.put-requires c).After-get-last).0

pub returns-clause-seated : goal.returns-clause-seated
returns-clause-seated c =
    let s = c.requires in
    let e₁ = c.restore.ensures.keeps.seats in
    let e₂ = c.open_up.ensures.keeps.seats ∙ e₁ in
    record {
      seat = is_out s.0 s.1 refl s.2 c.get-b.ensures c.get-last.ensures;
      run =
          seated s.0 s.1 refl s.2 c.get-b.ensures c.get-last.ensures c.restore.ensures.words (rw e₁ at c.get-position.ensures) c.args.id
          (rw e₁ at c.open_up.ensures.words) (rw e₂ at c.put.ensures.words);
    }
