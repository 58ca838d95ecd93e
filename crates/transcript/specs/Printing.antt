-- Document 01, 'The line program': how an answer is printed.
use Rattle.std.specs.Prelude.{cond, List, [], ◌∷◌, ◌++◌, ℕ, eqb}
use Rattle.rules.specs.Answers.{Answer}
use Rattle.lines.specs.Lines.{spaced}

-- a line: a word, numbers, and LF
abbrev pub said : List ℕ → List ℕ → List ℕ
said word vs = word ++ spaced vs ++ (10 ∷ [])

abbrev pub ok_word : List ℕ
ok_word = 111 ∷ 107 ∷ []

abbrev pub no_word : List ℕ
no_word = 110 ∷ 111 ∷ []

-- ok and the values, or no and the number
abbrev pub printed : Answer → List ℕ
printed x = cond (eqb x.number 0) (said ok_word x.values) (said no_word (x.number ∷ []))
