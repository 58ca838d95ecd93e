-- What load's steps ask of a run and leave in it, for the record that is loaded.
use Rattle.std.specs.Prelude.{◌≡◌, ℕ, ◌-◌, ◌<◌}
use Rattle.rules.specs.Table.{Bare, Table}
use Rattle.saved.specs.Reader.{rank, bare_from, table_read}
use Rattle.steps.specs.declared.RunMut.{RunMut}
use Rattle.record.specs.declared.Record.{Record}
use Rattle.record.specs.Building.{Laid}

abbrev pub removals : Record → ℕ
removals r = r.seats - r.used

-- the table after the removals, without servers; and with them
abbrev pub last_bare : Record → Bare
last_bare r = bare_from r.form r.bytes.now r.seats (removals r) (removals r)

abbrev pub table_in : Record → Table
table_in r = table_read r.form r.bytes.now r.seats r.used

-- the run has as many seats, and holds the table after i removals
pub record HoldsAfter (r : Record) (run : RunMut) (i : ℕ) : Type 0 where
  pub seats : run.seats ≡ r.seats
  pub laid : Laid r.form r.bytes.now run.words.now r.seats (removals r) i

-- seat b is the next to get its server: j of the seats below it are in use
pub record Next (r : Record) (run : RunMut) (b j : ℕ) : Type 0 where
  pub removed : HoldsAfter r run (removals r)
  pub below : b < r.seats
  pub is_rank : j ≡ rank (last_bare r).A b
