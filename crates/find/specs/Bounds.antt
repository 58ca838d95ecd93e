-- Request 2/13: "on unsound tables too". On any words that find answers for, each seat drawn has a smaller A than the one before, so no seat is drawn
-- twice, and a redraw follows K a times at the most.
use Rattle.std.specs.Prelude.{◌≡◌, List, [], ◌∷◌, ℕ, ◌*◌, ◌-◌, ◌<◌, ◌≤◌, ◌^◌}
use Rattle.rules.specs.Table.{◌!◌}
use Rattle.rules.specs.Answers.{fine}
use Rattle.find.specs.Find.{find_call}

-- d draws and f follows on a table of a seats
pub record Bounded (a d f : ℕ) : Type 0 where
  pub draws : d ≤ a
  pub walks : f ≤ a * (a - 1)

abbrev pub Bounds : Type 0
Bounds = (w : List ℕ) (k b server draws walks : ℕ) → find_call w k ≡ fine (b ∷ server ∷ draws ∷ walks ∷ []) → Bounded (w ! 0) draws walks

-- so 32 bits hold both, up to 65,536 seats
abbrev pub Fits : Type 0
Fits = (a d f : ℕ) → a ≤ 2 ^ 16 → Bounded a d f → (d < 2 ^ 32) × (f < 2 ^ 32)
