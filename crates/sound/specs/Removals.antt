-- Document 01, 'Changes': a full table of which seats are taken out, one after the other; and ids that are good.
use Rattle.std.specs.Prelude.{◌≡◌, List, ◌≢◌, ℕ, zero, suc, ◌<◌, length}
use Rattle.rules.specs.Table.{◌!◌, Bare}
use Rattle.rules.specs.Changes.{out}
use Rattle.rules.specs.History.{Id}
use Rattle.rules.specs.Keys.{full}

-- the first k seats of rs taken out, in order, of a full table of a seats
unfoldable pub after : ℕ → List ℕ → ℕ → Bare
after a rs zero = full a
after a rs (suc k) = out (after a rs k) (rs ! k)

-- the first k of rs are distinct seats, and not all of the a seats
pub record Takeable (a : ℕ) (rs : List ℕ) (k : ℕ) : Type 0 where
  pub fewer : k < a
  pub below : (i : ℕ) → i < k → rs ! i < a
  pub apart : (i j : ℕ) → i < j → j < k → rs ! i ≢ rs ! j

-- none in a seat out of use, one of its own in each seat in use
pub record Ids (a : ℕ) (A S : List ℕ) : Type 0 where
  pub size : length S ≡ a
  pub none : (x : ℕ) → x < a → A ! x ≢ 0 → S ! x ≡ 0
  pub some : (x : ℕ) → x < a → A ! x ≡ 0 → Id (S ! x)
  pub apart : (x y : ℕ) → x < a → y < a → S ! x ≢ 0 → S ! x ≡ S ! y → x ≡ y
