-- What the steps of find ask for and answer, as the definitions of 'Finding a key' say it.
use Rattle.std.specs.Prelude.{◌≡◌, List, ℕ, ◌<◌, ◌≤◌, length, Option, Some, None}
use Rattle.rules.specs.Table.{◌!◌, most_seats}
use Rattle.rules.specs.Keys.{Walk, at, lost, Looked, found, damaged, on, pick_of, lookup}
use Rattle.rules.specs.declared.Seat.{Seat}
use Rattle.find.specs.declared.Drawn.{Drawn}

abbrev pub walk_of : Option (Seat × ℕ) → Walk
walk_of (Some to) = at to.0.0 to.1
walk_of None = lost

abbrev pub looked_of : Option Drawn → Looked
looked_of (Some d) = found (on d.seat.0 d.draws) d.walks
looked_of None = damaged

-- the parts A and K of a run, and a seat of it
pub record Lookable (A K : List ℕ) (first : ℕ) : Type 0 where
  pub alike : length K ≡ length A
  pub most : length A ≤ most_seats
  pub below : first < length A

-- a seat of the run, where there is one
abbrev pub Within : List ℕ → Option Drawn → Type 0
Within A (Some d) = d.seat.0 < length A
Within A None = Unit {0}

-- the array rule on them
pub record Looks (A K : List ℕ) (key first : ℕ) (r : Option Drawn) : Type 0 where
  pub rule : looked_of r ≡ lookup A K (pick_of key) (A ! first) 1 0 first
  pub within : Within A r
