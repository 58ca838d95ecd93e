-- The test of a table that an audit makes in one pass: each index is looked at as a seat and as an entry of R, and each place a fixed number of times.
use Rattle.std.specs.Prelude.{◌≡◌, ◌≢◌, ℕ, ◌-◌, ◌<◌, ◌≤◌, max}
use Rattle.rules.specs.Table.{◌!◌, Bare, Table, most_seats}
use Rattle.sound.specs.Kept.{Lengths}
use Rattle.sound.specs.Removals.{Ids}

-- x owes q: x stood at position q. If it left while q was there (A[x] is not 0, nor below q), L keeps q;
-- else x stood there when q was cut off, and W keeps x, or x stands there now.
pub data Owes (T : Bare) (x q : ℕ) : Type 0 where
  gone : max q 1 ≤ T.A ! x → T.L ! x ≡ q → Owes T x q
  stays : T.A ! x < max q 1 → T.W ! q ≡ x → (q < T.used → T.L ! x ≡ q) → Owes T x q

-- b was taken out while p was the last position, and the seat that stood there took its place
pub record Moved (T : Bare) (p b : ℕ) : Type 0 where
  pub low : T.W ! p < T.seats
  pub under : T.L ! b < p
  pub owes : Owes T (T.W ! p) (T.L ! b)

-- seat x: in use it is its own successor, out of use R has it where A says; and its history begins where the line of all seats has it
pub record SeatPasses (T : Bare) (x : ℕ) : Type 0 where
  pub used : T.A ! x ≡ 0 → T.K ! x ≡ x
  pub out : T.A ! x ≢ 0 → (T.used ≤ T.A ! x) × (T.A ! x < T.seats) × (T.R ! (T.seats - 1 - T.A ! x) ≡ x)
  pub start : Owes T x x

-- what the taking out of b, entry i of R, left
pub record Removed (T : Bare) (i b : ℕ) : Type 0 where
  pub below : b < T.seats
  pub dated : T.A ! b ≡ T.seats - 1 - i
  pub last_k : T.K ! b ≡ T.W ! (T.seats - 1 - i)
  pub moved : T.W ! (T.seats - 1 - i) ≢ b → Moved T (T.seats - 1 - i) b

-- entry i of R
pub record RemovalPasses (T : Bare) (i : ℕ) : Type 0 where
  pub taken : i < T.seats - T.used → Removed T i (T.R ! i)
  pub rest : T.seats - T.used ≤ i → T.R ! i ≡ 0

pub record Test (T : Bare) : Type 0 where
  pub shape : Lengths T
  pub seat : (x : ℕ) → x < T.seats → SeatPasses T x
  pub removal : (i : ℕ) → i < T.seats → RemovalPasses T i

-- what every table of a history has: no more seats than may be, words that pass, and good ids
pub record Passes (T : Table) : Type 0 where
  pub most : T.bare.seats ≤ most_seats
  pub test : Test T.bare
  pub ids : Ids T.bare.seats T.bare.A T.S
