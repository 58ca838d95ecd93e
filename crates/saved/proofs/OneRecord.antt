-- A record is that of one table, since it reads back as that table.
use Rattle.saved.specs.OneRecord.{OneRecord}
use Rattle.saved.proofs.Back.{one_table}

pub theorem : OneRecord
theorem = one_table
