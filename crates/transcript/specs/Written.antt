-- Document 01, 'The line program': what the program leaves in its output, the answers and nothing else.
use Rattle.std.specs.Prelude.{◌≡◌, List, ◌++◌, ℕ, length, drop}

-- the text's length, and the output after it: the text is written, and the rest is as it was
pub record Written (text before : List ℕ) (o : ℕ × List ℕ) : Type 0 where
  pub count : o.0 ≡ length text
  pub bytes : o.1 ≡ text ++ drop o.0 before
