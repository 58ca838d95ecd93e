-- What stands in a table that is made by taking seats out: document 01, 'The table', of the words of a sound one.
use Rattle.std.specs.Prelude.{◌≡◌, ◌≢◌, ℕ, ◌-◌, ◌<◌, ◌≤◌, length}
use Rattle.rules.specs.Table.{Bare, ◌!◌}

-- N from 1 to a, and five lists of a words
pub record Lengths (T : Bare) : Type 0 where
  pub some : 1 ≤ T.used
  pub most : T.used ≤ T.seats
  pub len_A : length T.A ≡ T.seats
  pub len_K : length T.K ≡ T.seats
  pub len_W : length T.W ≡ T.seats
  pub len_L : length T.L ≡ T.seats
  pub len_R : length T.R ≡ T.seats

-- R is the seats out of use and then zeros; A says of each when it went
pub record Order (T : Bare) : Type 0 where
  pub taken : (i : ℕ) → i < T.seats - T.used → (T.R ! i < T.seats) × (T.A ! (T.R ! i) ≡ T.seats - 1 - i)
  pub rest : (i : ℕ) → T.seats - T.used ≤ i → T.R ! i ≡ 0
  pub each : (x : ℕ) → x < T.seats → T.A ! x ≢ 0 → (T.used ≤ T.A ! x) × (T.A ! x < T.seats) × (T.R ! (T.seats - 1 - T.A ! x) ≡ x)

-- a seat in use stands in the line, and the line has seats in use
pub record Kept (T : Bare) : Type 0 where
  pub shape : Lengths T
  pub order : Order T
  pub seated : (x : ℕ) → x < T.seats → T.A ! x ≡ 0 → (T.K ! x ≡ x) × (T.L ! x < T.used) × (T.W ! (T.L ! x) ≡ x)
  pub line : (q : ℕ) → q < T.used → (T.W ! q < T.seats) × (T.A ! (T.W ! q) ≡ 0) × (T.L ! (T.W ! q) ≡ q)
