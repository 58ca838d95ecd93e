-- Document 01, 'The saved record': numbers in bytes, big-endian. The highest byte stands first.
use Rattle.std.specs.Prelude.{◌≡◌, List, [], ◌∷◌, ◌++◌, ℕ, zero, suc, ◌+◌, ◌*◌, ◌/◌, ◌%◌, length, take, drop}
use Rattle.rules.specs.Table.{◌!◌}

-- x in so many bytes
abbrev pub bytes : ℕ → ℕ → List ℕ
bytes zero x = []
bytes (suc width) x = bytes width (x / 256) ++ (x % 256 ∷ [])

-- the number that stands in so many bytes at `at`
abbrev pub number_at : List ℕ → ℕ → ℕ → ℕ
number_at s at zero = 0
number_at s at (suc width) = number_at s at width * 256 + s ! (at + width)

-- x stands at `at`
abbrev pub Stands : List ℕ → ℕ → List ℕ → Type 0
Stands s at x = take (length x) (drop at s) ≡ x
