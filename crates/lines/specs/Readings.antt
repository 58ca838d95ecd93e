-- What the code hands on means, and what it leaves in the lent list.
use Rattle.std.specs.Prelude.{◌≡◌, cond, List, [], ◌++◌, ℕ, length, drop, Option, Some, None, eqb}
use Rattle.decimals.specs.Decimal.{Read, got, bad}
use Rattle.lines.specs.Lines.{next, last, given, most_id, most_key, ids_of, ids_behind, with_a, starts, open_word, Command, open_line, seat_line, out_line, find_line, unknown}
use Rattle.lines.specs.declared.Cursor.{Cursor}
use Rattle.lines.specs.declared.Word.{Word}
use Rattle.lines.specs.declared.Word.TheVariants as word
use Rattle.lines.specs.declared.Line.{Line}
use Rattle.lines.specs.declared.Line.TheVariants as line

abbrev pub next_of : Option (ℕ × Cursor) → Read
next_of (Some (v, c)) = got v c.rest.now
next_of None = bad

-- a number that nothing follows
abbrev pub alone : {N : Type 0} → Option (N × Cursor) → Option N
alone (Some (v, c)) = cond (eqb (length c.rest.now) 0) (Some v) None
alone None = None

-- the ids that are read of a line that begins with `open`
unfoldable pub ids_read : List ℕ → List ℕ
unfolding starts next ids_of
ids_read l = cond (starts open_word l) (ids_behind (next most_id (drop 4 l))).ids []

-- what a line is by its first word, and the ids that are read of it, from what stands behind the word
abbrev pub behind_word : Word → List ℕ → Command × List ℕ
behind_word word.Open l = let x = next most_id l in (with_a x, (ids_behind x).ids)
behind_word word.Seat l = (given seat_line (last (next most_id l)), [])
behind_word word.Out l = (given out_line (last (next most_id l)), [])
behind_word word.Find l = (given find_line (last (next most_key l)), [])

abbrev pub after_first : Option (Word × Cursor) → Command × List ℕ
after_first (Some (w, c)) = behind_word w c.rest.now
after_first None = (unknown, [])

-- ids stand first in a list, and the rest of it is as it was
abbrev pub stand_first : List ℕ → List ℕ → List ℕ
stand_first ids l = ids ++ drop (length ids) l

-- a command, its ids counted
abbrev pub line_from : Command → Option Line
line_from (open_line a ids) = Some (line.Open a (length ids))
line_from (seat_line id) = Some (line.Seat id)
line_from (out_line id) = Some (line.Out id)
line_from (find_line key) = Some (line.Find key)
line_from unknown = None

-- that, and the list after it
pub record IsLine (x : Command × List ℕ) (before : List ℕ) (o : Option Line × List ℕ) : Type 0 where
  pub line : o.0 ≡ line_from x.0
  pub stand : o.1 ≡ stand_first x.1 before
