-- `steamacorn::steamacorn_seat` meets its contract: the seat goes out as its number.
use Rattle.promises.proofs.Prelude.{[], ◌∷◌, rules}
use Rattle.steamacorn.proofs.Telling.{mapped_told}
use Rattle.steamacorn.proofs.steamacorn_seat.Goals as goal

pub returns : goal.returns
returns c = mapped_told (λ b. b.0) _ (λ b n p. search rules) _ _ c.map.ensures.cases c.seat_server.ensures (c.tell.ensures (λ n. n ∷ []))
