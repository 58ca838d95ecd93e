-- Document 01, 'The line program': the lines of an input, by its bytes. "Lines end with LF; a last line without LF counts if it has a byte."
use Rattle.std.specs.Prelude.{◌≡◌, List, [], ◌∷◌, ◌++◌, ◌≢◌, ◌↔◌, ℕ, get_or}
use Rattle.lines.specs.Lines.{lines_of}

-- none of its bytes is LF
abbrev pub HasNoEnd : List ℕ → Type 0
HasNoEnd l = (i : ℕ) → get_or l i 0 ≢ 10

-- the input is these lines
pub data AreLines : List ℕ → List (List ℕ) → Type 0 where
  none : AreLines [] []
  ended : {l rest : List ℕ} {ls : List (List ℕ)} → HasNoEnd l → AreLines rest ls → AreLines (l ++ 10 ∷ rest) (l ∷ ls)
  unended : {l : List ℕ} → HasNoEnd l → l ≢ [] → AreLines l (l ∷ [])

abbrev pub LinesOf : Type 0
LinesOf = (input : List ℕ) (ls : List (List ℕ)) → (lines_of input ≡ ls) ↔ AreLines input ls
