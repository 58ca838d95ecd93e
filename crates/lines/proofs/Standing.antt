-- How a caller reads what `command` leaves: the ids of an opening stand first in the lent list.
use Rattle.promises.proofs.Prelude.{◌≡◌, refl, ap, true, false, Bool, List, ℕ, ◌≤◌, arith, length, drop, length-append, take}
use Rattle.std.specs.Prelude.{Option, Some, None}
use lib.Seq.{take-append_seam}
use Rattle.decimals.specs.Decimal.{Read, got, bad}
use Rattle.lines.specs.Lines.{next, last, given, most_id, most_key, ids_in, ids_behind, opens, with_a, open_word, seat_word, out_word, find_word, Command, open_line, seat_line, out_line, find_line, unknown, command_of}
use Rattle.lines.specs.declared.Line.{Line}
use Rattle.lines.specs.declared.Line.TheVariants as line
use Rattle.lines.specs.Readings.{ids_read, stand_first, line_from, IsLine}
use Rattle.lines.proofs.Words.{starts_cases}

-- a command, its ids in a lent list
abbrev pub line_of : List ℕ → Option Line → Command
line_of ids (Some (line.Open a n)) = open_line a (take n ids)
line_of ids (Some (line.Seat id)) = seat_line id
line_of ids (Some (line.Out id)) = out_line id
line_of ids (Some (line.Find key)) = find_line key
line_of ids None = unknown

-- how many of them
abbrev pub line_count : Option Line → ℕ
line_count (Some (line.Open a n)) = n
line_count (Some (line.Seat id)) = 0
line_count (Some (line.Out id)) = 0
line_count (Some (line.Find key)) = 0
line_count None = 0

-- the ids of an opening stand first
abbrev Told : List ℕ → Command → Type 0
Told after c = (line_of after (line_from c) ≡ c) × (line_count (line_from c) ≤ length after)

given_told : (after : List ℕ) (f : ℕ → Command) → ((v : ℕ) → Told after (f v)) → (r : Read) → Told after (given f r)
given_told after f h bad = (refl, omega arith)
given_told after f h (got v bs) = h v

module _ (before : List ℕ) where
  opens_told : (a : ℕ) (ids : List ℕ) (whole : Bool) → Told (stand_first ids before) (opens a (record { ids = ids; whole = whole }))
  opens_told a ids true = (ap (open_line a) (take-append_seam ids _), simp length-append (omega arith))
  opens_told a ids false = (refl, omega arith)

  with_a_told : (r : Read) → Told (stand_first (ids_behind r).ids before) (with_a r)
  with_a_told bad = (refl, omega arith)
  with_a_told (got a bs) = let i = ids_in bs in opens_told a i.ids i.whole

  pub told : (s after : List ℕ) (r : Option Line) → IsLine (command_of s, ids_read s) before (r, after) → (line_of after r ≡ command_of s) × (line_count r ≤ length after)
  unfolding command_of ids_read
  told s after r is =
      let stood = stand_first (ids_read s) before in
      let P = Told stood in
      rw (is.line, is.stand)
      (starts_cases P open_word s (λ e. rw e (with_a_told (next most_id (drop 4 s))))
      (starts_cases P seat_word s (λ e. given_told stood seat_line (λ v. (refl, omega arith)) (last (next most_id (drop 4 s))))
      (starts_cases P out_word s (λ e. given_told stood out_line (λ v. (refl, omega arith)) (last (next most_id (drop 3 s))))
      (starts_cases P find_word s (λ e. given_told stood find_line (λ v. (refl, omega arith)) (last (next most_key (drop 4 s))))
      (refl, omega arith)))))
