-- Request 2/13: "how often it followed K". What a walk's count is, said without the walk and on any arrays: K was followed exactly so often, and no less
-- would do.
use Rattle.std.specs.Prelude.{◌≡◌, List, ℕ, zero, suc, ◌<◌, ◌≤◌, length}
use Rattle.rules.specs.Table.{◌!◌}
use Rattle.rules.specs.Keys.{at, walk}

-- the seat to which K leads from h, followed n times
abbrev pub along : List ℕ → ℕ → ℕ → ℕ
along K zero h = h
along K (suc n) h = along K n (K ! h)

-- n follows lead from h to x, where A is below m; after fewer it is not; and all are seats of the table
pub record Followed (A K : List ℕ) (m h x n : ℕ) : Type 0 where
  pub there : along K n h ≡ x
  pub ends : A ! x < m
  pub goes_on : (i : ℕ) → i < n → m ≤ A ! along K i h
  pub seats : (i : ℕ) → i ≤ n → along K i h < length A

-- a walk that may follow K `fuel` times ends so exactly where this holds
abbrev pub CountsFollows : Type 0
CountsFollows =
    (A K : List ℕ) (m fuel h x n : ℕ)
    → (walk A K m fuel 0 h ≡ at x n → Followed A K m h x n × (n ≤ fuel)) × (Followed A K m h x n → n ≤ fuel → walk A K m fuel 0 h ≡ at x n)
