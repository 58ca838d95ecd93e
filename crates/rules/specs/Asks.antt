-- What an opening and a change ask, in plain conditions. Histories and calls read the lists of refusals (History); that these lists say just this is proved,
-- so a list that refuses more, or less, is shut out.
use Rattle.std.specs.Prelude.{◌≡◌, List, ◌≢◌, ℕ, ◌<◌, ◌≤◌, length}
use Rattle.rules.specs.Table.{◌!◌, Table, most_seats}
use Rattle.rules.specs.Changes.{last_out}
use Rattle.rules.specs.History.{Id, Change, taking, seating}

-- a is at most 2,048; the list has from 1 to a ids, each is an id, and no two are equal
pub record Opening (a : ℕ) (ids : List ℕ) : Type 0 where
  pub most : a ≤ most_seats
  pub some : 1 ≤ length ids
  pub fit : length ids ≤ a
  pub each : (i : ℕ) → i < length ids → Id (ids ! i)
  pub apart : (i j : ℕ) → i < j → j < length ids → ids ! i ≢ ids ! j

-- the id stands in seat b, and is not the last one
pub record Taken (T : Table) (id b : ℕ) : Type 0 where
  pub named : id ≢ 0
  pub inside : b < length T.S
  pub has : T.S ! b ≡ id
  pub other : T.bare.used ≢ 1

-- the id is an id and stands nowhere, there is a seat for it, and b is the last one out
pub record Seated (T : Table) (id b : ℕ) : Type 0 where
  pub is_id : Id id
  pub away : (x : ℕ) → x < length T.S → T.S ! x ≢ id
  pub room : T.bare.used ≢ T.bare.seats
  pub is_last : last_out T.bare ≡ b

abbrev pub Asks : Table → Change → Type 0
Asks T (taking id b) = Taken T id b
Asks T (seating id b) = Seated T id b
