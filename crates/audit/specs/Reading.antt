-- The run that a pass is over, read as a table.
use Rattle.rules.specs.Table.{Table, table_for}
use Rattle.audit.specs.declared.Pass.{Pass}

abbrev pub table_in : Pass → Table
table_in p = table_for p.run.seats p.run.words.now
