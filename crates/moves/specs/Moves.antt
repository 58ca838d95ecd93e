-- What seating leaves.
use Rattle.std.specs.Prelude.{◌≡◌, List, ℕ}
use Rattle.rules.specs.Table.{Table, words}
use Rattle.rules.specs.Changes.{last_out, seat_id}
use Rattle.rules.specs.declared.Seat.{Seat}

-- the last seat out, and the words with the id in it
pub record LastSeated (T : Table) (id : ℕ) (o : Seat × List ℕ) : Type 0 where
  pub seat : o.0.0 ≡ last_out T.bare
  pub run : o.1 ≡ words (seat_id T id)
