-- Document 01, 'The saved record': a sound table has one record, `record_of` it, and a record is that of one table.
use Rattle.std.specs.Prelude.{◌≡◌}
use Rattle.rules.specs.Table.{Table}
use Rattle.rules.specs.History.{Reached}
use Rattle.saved.specs.Record.{record_of}

abbrev pub OneRecord : Type 0
OneRecord = (T U : Table) → Reached T → Reached U → record_of T ≡ record_of U → T ≡ U
