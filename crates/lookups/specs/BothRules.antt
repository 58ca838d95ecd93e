-- Document 01, 'Finding a key': "On sound tables both rules agree and 5 never occurs."
use Rattle.std.specs.Prelude.{◌≡◌, ℕ}
use Rattle.rules.specs.Keys.{found}
use Rattle.lookups.specs.EveryTable.{EveryTable}

-- the array rule finds, and what the set rule does: the same seat, with the same draws. The walks are the array rule's own; sets know none.
abbrev pub BothRules : Type 0
BothRules = EveryTable (λ T looked f. (walks : ℕ) × (looked ≡ found f walks))
