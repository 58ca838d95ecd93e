-- Document 01, 'The table': one run of words.
--
--   word    0  1  2 ..   2+a ..  2+2a ..  2+3a ..  2+4a ..  2+5a ..
--   holds   a  N  A      K       W        L        R        S
--
-- Seven seats with ids 11 to 17, after 17, 16 and 12 are taken out; a = 7, N = 4, and the line is 0 4 2 3:
--
--   A   0  4  0  0  0  5  6     0 in use, else N just after it was taken out
--   K   0  4  2  3  4  5  6     its successor; its own number while in use
--   W   0  4  2  3  4  5  6     the working line, first N positions current
--   L   0  1  2  3  1  5  6     its latest position
--   R   6  5  1  0  0  0  0     the seats out of use, oldest removal first
--   S  11  0 13 14 15  0  0     its server
use Rattle.std.specs.Prelude.{Bool, ◌&&◌, List, [], ◌∷◌, ◌++◌, ℕ, ◌+◌, ◌*◌, length, take, drop, get_or, leb, eqb}

infixl 80 ◌!◌
-- the word at i
abbrev pub ◌!◌ : List ℕ → ℕ → ℕ
l ! i = get_or l i 0

-- every word but the ids
pub record Bare : Type 0 where
  pub seats : ℕ
  pub used : ℕ
  pub A : List ℕ
  pub K : List ℕ
  pub W : List ℕ
  pub L : List ℕ
  pub R : List ℕ

pub record Table : Type 0 where
  pub bare : Bare
  pub S : List ℕ

abbrev pub table : Bare → List ℕ → Table
table B S = record { bare = B; S = S }

-- T with other words but the ids, and with other ids: a change is said by these, so that a further field of the table is one that it keeps
abbrev pub with_bare : Table → Bare → Table
with_bare T B = record { bare = B; S = T.S }

abbrev pub with_ids : Table → List ℕ → Table
with_ids T S = record { bare = T.bare; S = S }

-- the words before the parts, and the parts in their order
abbrev pub head : Table → List ℕ
head T = T.bare.seats ∷ T.bare.used ∷ []

abbrev pub parts : Table → List (List ℕ)
parts T = T.bare.A ∷ T.bare.K ∷ T.bare.W ∷ T.bare.L ∷ T.bare.R ∷ T.S ∷ []

-- how many there are of each
abbrev pub front : ℕ
front = 2

abbrev pub part_count : ℕ
part_count = 6

-- lists one after the other
abbrev pub joined : List (List ℕ) → List ℕ
joined [] = []
joined (p ∷ ps) = p ++ joined ps

-- a table as a run of words
abbrev pub words : Table → List ℕ
words T = head T ++ joined (parts T)

-- where part p of a table of a seats begins, and how long its run is
abbrev pub base : ℕ → ℕ → ℕ
base a p = front + p * a

abbrev pub run_length : ℕ → ℕ
run_length a = base a part_count

abbrev pub most_seats : ℕ
most_seats = 2048

-- part p of a run for a seats
abbrev pub part : ℕ → ℕ → List ℕ → List ℕ
part a p w = take a (drop (base a p) w)

-- a run of words read as a table: of a seats, and of as many as its word 0 says
abbrev pub table_for : ℕ → List ℕ → Table
table_for a w = table (record { seats = a; used = w ! 1; A = part a 0 w; K = part a 1 w; W = part a 2 w; L = part a 3 w; R = part a 4 w }) (part a 5 w)

abbrev pub table_of : List ℕ → Table
table_of w = table_for (w ! 0) w

-- legal shape: a from 1 to 2,048, and the run is 2 + 6a words; a run shorter than two words is not
abbrev pub legal : List ℕ → Bool
legal w = leb front (length w) && leb 1 (w ! 0) && leb (w ! 0) most_seats && eqb (length w) (run_length (w ! 0))
