-- Document 01, 'Finding a key': "Draws is the number of hashes taken: 1 plus the redraws. On a sound table, draws is at most 1 + (a - N)."
use Rattle.std.specs.Prelude.{ℕ, ◌+◌, ◌-◌, ◌≤◌}
use Rattle.lookups.specs.EveryTable.{EveryTable}

-- d draws on a table of a seats, N of them in use
pub record Few (a N d : ℕ) : Type 0 where
  pub some : 1 ≤ d
  pub most : d ≤ 1 + (a - N)

-- the set rule's draws, which are the array rule's (`BothRules`)
abbrev pub FewDraws : Type 0
FewDraws = EveryTable (λ T looked f. Few T.bare.seats T.bare.used f.draws)
