-- Document 01, 'The line program': printing and reading a number are opposites, what is printed reads as the number, and nothing else does.
use Rattle.std.specs.Prelude.{◌≡◌, false, List, [], ◌∷◌, ◌++◌, ℕ, ◌<◌, ◌≤◌, ◌^◌}
use Rattle.decimals.specs.Decimal.{decimal, got, is_digit, number}

-- behind a number is the last byte or `end`
abbrev pub Parted : ℕ → List ℕ → Type 0
Parted end [] = Unit {0}
Parted end (b ∷ bs) = b ≡ end

-- s is the number v as it is printed, and then the rest
pub record Prints (end lim : ℕ) (s : List ℕ) (v : ℕ) (rest : List ℕ) : Type 0 where
  pub most : v ≤ lim
  pub text : s ≡ decimal v ++ rest
  pub parted : Parted end rest

-- no digit parts numbers
abbrev pub Opposites : Type 0
Opposites =
    (end lim v : ℕ) (s rest : List ℕ) → is_digit end ≡ false → lim < 2 ^ 64
    → (Prints end lim s v rest → number end lim s ≡ got v rest) × (number end lim s ≡ got v rest → Prints end lim s v rest)
