-- A run of words, as the functions that work on it ask for it.
use Rattle.std.specs.Prelude.{◌≡◌, List, [], ◌∷◌, ◌++◌, ℕ, ◌≤◌, length}
use Rattle.rules.specs.Table.{◌!◌, front, joined, run_length, most_seats}

-- a run for a seats
pub record Shape (w : List ℕ) (a : ℕ) : Type 0 where
  pub size : length w ≡ run_length a
  pub most : a ≤ most_seats

-- one that says so: a run of legal shape
pub record Legal (w : List ℕ) (a : ℕ) : Type 0 where
  pub first : w ! 0 ≡ a
  pub some : 1 ≤ a
  pub shape : Shape w a

-- every list of ps has n elements
pub data All : ℕ → List (List ℕ) → Type 0 where
  none : {n : ℕ} → All n []
  more : {n : ℕ} {p : List ℕ} {ps : List (List ℕ)} → length p ≡ n → All n ps → All n (p ∷ ps)

-- the run w holds the head h and the parts ps, each of a words
pub record Holds (w h : List ℕ) (a : ℕ) (ps : List (List ℕ)) : Type 0 where
  pub is : w ≡ h ++ joined ps
  pub fronts : length h ≡ front
  pub sized : All a ps
