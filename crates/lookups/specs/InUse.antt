-- Document 01, 'Finding a key': 5 is answered "when the final seat has S = 0", and "on sound tables .. 5 never occurs".
use Rattle.std.specs.Prelude.{◌≡◌, ◌≢◌, ◌<◌}
use Rattle.rules.specs.Table.{◌!◌, Table}
use Rattle.rules.specs.Keys.{Found}
use Rattle.lookups.specs.EveryTable.{EveryTable}

-- the seat found is in use, and has a server
pub record Serves (T : Table) (f : Found) : Type 0 where
  pub below : f.seat < T.bare.seats
  pub in_use : T.bare.A ! f.seat ≡ 0
  pub server : T.S ! f.seat ≢ 0

-- so neither rule ends at a seat without a server
abbrev pub InUse : Type 0
InUse = EveryTable (λ T looked f. Serves T f)
