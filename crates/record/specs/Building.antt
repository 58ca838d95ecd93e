-- What load's steps ask of a run and leave in it, in the words of crate `saved`'s Reader.
use Rattle.std.specs.Prelude.{◌≡◌, List, ℕ, length}
use Rattle.rules.specs.Table.{Table, table, head, parts, table_for}
use Rattle.rules.specs.Runs.{Legal, Holds}
use Rattle.sound.specs.Test.{Test}
use Rattle.fields.specs.declared.Form.{Form}
use Rattle.saved.specs.Reader.{bare_from}

abbrev pub table_at : Form → List ℕ → ℕ → ℕ → ℕ → List ℕ → Table
table_at f s a m i S = table (bare_from f s a m i) S

-- the run w holds the table after i removals of the m that the bytes s name, with any ids S; it reads as that table, and passes the test
pub record Laid (f : Form) (s w : List ℕ) (a m i : ℕ) : Type 0 where
  pub S : List ℕ
  pub size : length S ≡ a
  pub holds : Holds w (head (table_at f s a m i S)) a (parts (table_at f s a m i S))
  pub reads : table_for a w ≡ table_at f s a m i S
  pub legal : Legal w a
  pub test : Test (table_for a w).bare
