-- Document 01, 'The line program': lines, words, numbers and commands.
use Rattle.std.specs.Prelude.{Bool, true, false, cond, ◌&&◌, List, [], ◌∷◌, ◌++◌, ℕ, zero, suc, ◌-◌, ◌^◌, length, drop, eqb}
use Rattle.decimals.specs.Decimal.{decimal, Read, got, bad, number}

-- Lines end with LF; a last line without LF counts if it has a byte.
abbrev pub joins : ℕ → List (List ℕ) → List (List ℕ)
joins b [] = (b ∷ []) ∷ []
joins b (l ∷ ls) = (b ∷ l) ∷ ls

unfoldable pub lines_of : List ℕ → List (List ℕ)
lines_of [] = []
lines_of (b ∷ bs) =
    let ls = lines_of bs in
    cond (eqb b 10) ([] ∷ ls) (joins b ls)

-- Words are parted by one space
abbrev pub space : ℕ
space = 32

-- a number behind a space
unfoldable pub next : ℕ → List ℕ → Read
unfolding number
next lim [] = bad
next lim (b ∷ bs) = cond (eqb b space) (number space lim bs) bad

-- below 2^32; a key below 2^64
abbrev pub most_id : ℕ
most_id = 2 ^ 32 - 1

abbrev pub most_key : ℕ
most_key = 2 ^ 64 - 1

pub data Command : Type 0 where
  open_line : ℕ → List ℕ → Command
  seat_line : ℕ → Command
  out_line : ℕ → Command
  find_line : ℕ → Command
  unknown : Command

-- nothing after it
abbrev pub last : Read → Read
last bad = bad
last (got v []) = got v []
last (got v (b ∷ bs)) = bad

abbrev pub given : (ℕ → Command) → Read → Command
given f bad = unknown
given f (got v bs) = f v

-- ids to the line's end, or up to what is none, and whether it is the end
pub record Ids : Type 0 where
  pub ids : List ℕ
  pub whole : Bool

abbrev pub no_ids : Bool → Ids
no_ids whole = record { ids = []; whole = whole }

abbrev pub before : ℕ → Ids → Ids
before id more = record { ids = id ∷ more.ids; whole = more.whole }

abbrev pub id_then : Read → (List ℕ → Ids) → Ids
id_then bad rest = no_ids false
id_then (got id bs) rest = before id (rest bs)

-- fewer than `most`
unfoldable pub ids_of : ℕ → List ℕ → Ids
unfolding next
ids_of zero bs = no_ids false
ids_of (suc most) [] = no_ids true
ids_of (suc most) (b ∷ bs) = id_then (next most_id (b ∷ bs)) (ids_of most)

-- all of them: there are no more than bytes
abbrev pub ids_in : List ℕ → Ids
ids_in bs = ids_of (suc (length bs)) bs

-- those behind A
abbrev pub ids_behind : Read → Ids
ids_behind bad = no_ids false
ids_behind (got a bs) = ids_in bs

abbrev pub opens : ℕ → Ids → Command
opens a i = cond i.whole (open_line a i.ids) unknown

abbrev pub with_a : Read → Command
with_a bad = unknown
with_a (got a bs) = opens a (ids_behind (got a bs))

-- the line begins with this word
unfoldable pub starts : List ℕ → List ℕ → Bool
starts [] l = true
starts (c ∷ w) [] = false
starts (c ∷ w) (b ∷ l) = eqb b c && starts w l

-- the words open, seat, out and find
abbrev pub open_word : List ℕ
open_word = 111 ∷ 112 ∷ 101 ∷ 110 ∷ []

abbrev pub seat_word : List ℕ
seat_word = 115 ∷ 101 ∷ 97 ∷ 116 ∷ []

abbrev pub out_word : List ℕ
out_word = 111 ∷ 117 ∷ 116 ∷ []

abbrev pub find_word : List ℕ
find_word = 102 ∷ 105 ∷ 110 ∷ 100 ∷ []

-- Lines: open A ID.., seat ID, out ID, find KEY; what does not come apart so is unknown
unfoldable pub command_of : List ℕ → Command
unfolding starts next ids_of
command_of l =
    cond (starts open_word l) (with_a (next most_id (drop 4 l)))
    (cond (starts seat_word l) (given seat_line (last (next most_id (drop 4 l))))
    (cond (starts out_word l) (given out_line (last (next most_id (drop 3 l))))
    (cond (starts find_word l) (given find_line (last (next most_key (drop 4 l))))
    unknown)))

-- numbers as they are printed, each behind a space
unfoldable pub spaced : List ℕ → List ℕ
spaced [] = []
spaced (v ∷ vs) = space ∷ decimal v ++ spaced vs
