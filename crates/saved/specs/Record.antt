-- Document 01, 'The saved record'. A two-byte mark stands before each record; numbers are big-endian.
--
-- Seven seats with ids 11 to 17, after 17, 16 and 12 are taken out, give 50 bytes:
--
--   41 53  00 07  00 04              a and N
--   4F 55  00 06                     for each entry of R, oldest first: the seat
--   4F 55  00 05
--   4F 55  00 01
--   49 4E  00 00  00 00 00 0B        for each seat in use, ascending: the seat, and its server
--   49 4E  00 02  00 00 00 0D
--   49 4E  00 03  00 00 00 0E
--   49 4E  00 04  00 00 00 0F
use Rattle.std.specs.Prelude.{◌≡◌, cond, List, [], ◌++◌, ℕ, zero, suc, ◌-◌, eqb}
use Rattle.rules.specs.Table.{◌!◌, Table}
use Rattle.rules.specs.History.{Reached}
use Rattle.fields.specs.Numbers.{bytes}
use Rattle.fields.specs.declared.Form.{Form}
use Rattle.fields.specs.Form.{head_mark, field, form_for, out_mark, in_mark, server_length}

abbrev pub head_record : Form → ℕ → ℕ → List ℕ
head_record f a N = head_mark f ++ (bytes (field f) a ++ bytes (field f) N)

abbrev pub out_record : Form → ℕ → List ℕ
out_record f b = out_mark ++ bytes (field f) b

abbrev pub in_record : Form → ℕ → ℕ → List ℕ
in_record f b id = in_mark ++ (bytes (field f) b ++ bytes server_length id)

-- f 0, f 1, .., f (n - 1), one after the other
abbrev pub each : (ℕ → List ℕ) → ℕ → List ℕ
each f zero = []
each f (suc n) = each f n ++ f n

-- the record of seat b, if it is in use
abbrev pub seat_record : Form → Table → ℕ → List ℕ
seat_record f T b = cond (eqb (T.bare.A ! b) 0) (in_record f b (T.S ! b)) []

abbrev pub removal_record : Form → Table → ℕ → List ℕ
removal_record f T i = out_record f (T.bare.R ! i)

-- the record of a table in a form, and in its own
unfoldable pub record_in : Form → Table → List ℕ
record_in f T =
    let a = T.bare.seats in
    let N = T.bare.used in
    head_record f a N ++ (each (removal_record f T) (a - N) ++ each (seat_record f T) a)

abbrev pub record_of : Table → List ℕ
record_of T = record_in (form_for T.bare.seats) T

-- the bytes are a record of a sound table
pub record IsRecord (s : List ℕ) : Type 0 where
  pub table : Table
  pub reached : Reached table
  pub is_record : record_of table ≡ s
