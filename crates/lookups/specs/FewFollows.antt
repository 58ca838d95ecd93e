-- Request 2/13: "On a sound table one redraw follows at most a-N times."
use Rattle.std.specs.Prelude.{◌≡◌, ◌≢◌, ℕ, ◌*◌, ◌-◌, ◌≤◌}
use Rattle.rules.specs.Table.{◌!◌, Table}
use Rattle.rules.specs.History.{Reached}
use Rattle.rules.specs.Keys.{Walk, at, found, redraw}
use Rattle.lookups.specs.EveryTable.{Draws, EveryTable}

-- a walk ends at x, with `most` follows at the most
pub record EndsAt (x most : ℕ) (w : Walk) : Type 0 where
  pub follows : ℕ
  pub is : w ≡ at x follows
  pub few : follows ≤ most

-- every redraw: at each seat out of use, whatever is drawn there
abbrev pub FewFollows : Type 0
FewFollows =
    (T : Table) → Reached T → (pick : ℕ → ℕ → ℕ) (b : ℕ) → Draws pick → T.bare.A ! b ≢ 0
    → (x : ℕ) × EndsAt x (T.bare.seats - T.bare.used) (redraw T.bare.A T.bare.K pick b)

-- and the walks, which are those of all redraws together
abbrev pub FewWalks : Type 0
FewWalks =
    EveryTable (λ T looked f. (walks : ℕ) × (looked ≡ found f walks) × (walks ≤ (T.bare.seats - T.bare.used) * (f.draws - 1)))
