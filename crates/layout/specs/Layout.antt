-- A run of which one part is replaced.
use Rattle.std.specs.Prelude.{◌≡◌, List, ◌++◌, ℕ, ◌+◌, ◌<◌, length, take, drop}
use Rattle.rules.specs.Table.{◌!◌, base}

-- the run w with part k of a seats replaced
abbrev pub with_part : ℕ → ℕ → List ℕ → List ℕ → List ℕ
with_part a k new w = take (base a k) w ++ (new ++ drop (base a k + a) w)

-- n words, of which the first i are each as `of` has it of its index
pub record Filling (of : ℕ → ℕ → Type 0) (n i : ℕ) (l : List ℕ) : Type 0 where
  pub size : length l ≡ n
  pub each : (k : ℕ) → k < i → of k (l ! k)

abbrev pub Filled : (ℕ → ℕ → Type 0) → ℕ → List ℕ → Type 0
Filled of n = Filling of n n

-- part k of a seats is filled so
pub record Lays (of : ℕ → ℕ → Type 0) (a k : ℕ) (before after : List ℕ) : Type 0 where
  pub part : List ℕ
  pub filled : Filled of a part
  pub rest : after ≡ with_part a k part before
