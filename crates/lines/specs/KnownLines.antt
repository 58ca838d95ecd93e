-- Document 01, 'The line program': the lines that the program knows, by their bytes. "Words are parted by one space. Numbers are decimal, without sign or leading zeros (0 itself is allowed), below 2^32,
-- a key below 2^64. Lines: `open A ID..`, `seat ID`, `out ID`, `find KEY`. `open 7` without ids is a known line (COUNT). A line that does not come apart so is answered 11."
use Rattle.std.specs.Prelude.{◌≡◌, List, [], ◌∷◌, ◌++◌, ◌≢◌, ◌↔◌, ℕ, ◌<◌, ◌^◌}
use Rattle.promises.specs.One.{One}
use Rattle.rules.specs.Table.{◌!◌}
use Rattle.lines.specs.Lines.{open_word, seat_word, out_word, find_word, Command, open_line, seat_line, out_line, find_line, unknown, command_of, spaced}

-- l comes apart into a word and numbers: each number in decimal digits behind one space, and below the limit
pub record ComesApart (l word : List ℕ) (limit : ℕ) (numbers : List ℕ) : Type 0 where
  pub bytes : l ≡ word ++ spaced numbers
  pub below : (i : ℕ) → numbers ! i < limit

-- l is a line of this command; unknown has none
abbrev pub Known : List ℕ → Command → Type 0
Known l (open_line a ids) = ComesApart l open_word (2 ^ 32) (a ∷ ids)
Known l (seat_line id) = ComesApart l seat_word (2 ^ 32) (id ∷ [])
Known l (out_line id) = ComesApart l out_word (2 ^ 32) (id ∷ [])
Known l (find_line key) = ComesApart l find_word (2 ^ 64) (key ∷ [])
Known l unknown = ⊥

-- a line is read as a command exactly if it is a line of it
abbrev pub KnownLines : Type 0
KnownLines = (l : List ℕ) (c : Command) → c ≢ unknown → (command_of l ≡ c) ↔ Known l c

-- and as unknown exactly if it is a line of none
abbrev pub OtherLines : Type 0
OtherLines = (l : List ℕ) → (command_of l ≡ unknown) ↔ ((c : Command) → Known l c → ⊥)

-- no line is one of two commands
abbrev pub OneCommand : Type 0
OneCommand = (l : List ℕ) → One (Known l)
