-- The test of crate `sound`, and each seat's server beside it, as one pass over the run makes it.
use Rattle.std.specs.Prelude.{◌≡◌, List, ◌≢◌, ℕ, ◌<◌, ◌≤◌}
use Rattle.rules.specs.Table.{◌!◌, Bare, Table}
use Rattle.sound.specs.Test.{SeatPasses, RemovalPasses}
use Rattle.rules.specs.Runs.{Shape}

-- the words before the parts: N is from 1 to a
pub record HeadPasses (w : List ℕ) (a : ℕ) : Type 0 where
  pub some : 1 ≤ w ! 1
  pub most : w ! 1 ≤ a

-- a run for a seats with n of them in use
pub record Counted (w : List ℕ) (a n : ℕ) : Type 0 where
  pub shape : Shape w a
  pub is_N : w ! 1 ≡ n
  pub head : HeadPasses w a

-- x stands at q, or stood there when q was cut off
pub record LineHas (T : Bare) (x q : ℕ) : Type 0 where
  pub there : T.W ! q ≡ x
  pub placed : q < T.used → T.L ! x ≡ q

-- seat x, with its server: one in use, none out of use
pub record ServedPasses (T : Table) (x : ℕ) : Type 0 where
  pub words : SeatPasses T.bare x
  pub some : T.bare.A ! x ≡ 0 → T.S ! x ≢ 0
  pub none : T.bare.A ! x ≢ 0 → T.S ! x ≡ 0

-- i as a seat, and as an entry of R
pub record IndexPasses (T : Table) (i : ℕ) : Type 0 where
  pub seat : ServedPasses T i
  pub removal : RemovalPasses T.bare i

-- those below n pass
abbrev pub AllPass : Table → ℕ → Type 0
AllPass T n = (i : ℕ) → i < n → IndexPasses T i
