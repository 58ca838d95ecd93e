-- Document 01, 'The saved record': a record's form is the mark of its head, and the width of the field for a, for N and for each seat.
-- Its lengths and the places of its parts follow:
--
--   head        mark  a     N             6 bytes
--   a removal   mark  seat                4
--   a seat      mark  seat  server        8
use Rattle.std.specs.Prelude.{List, [], ◌∷◌, ℕ, zero, suc, ◌+◌}
use Rattle.fields.specs.declared.Form.{Form}
use Rattle.fields.specs.declared.Form.TheVariants.{Short}

abbrev pub head_mark : Form → List ℕ
head_mark Short = 0x41 ∷ 0x53 ∷ []

abbrev pub field : Form → ℕ
field Short = 2

-- the form of the record of a table of a seats: the only one, until there is a second
unfoldable pub form_for : ℕ → Form
form_for a = Short

abbrev pub out_mark : List ℕ
out_mark = 0x4F ∷ 0x55 ∷ []

abbrev pub in_mark : List ℕ
in_mark = 0x49 ∷ 0x4E ∷ []

-- the bytes of a mark, and of a server
abbrev pub mark_length : ℕ
mark_length = 2

abbrev pub server_length : ℕ
server_length = 4

abbrev pub head_length : Form → ℕ
head_length f = mark_length + field f + field f

abbrev pub out_length : Form → ℕ
out_length f = mark_length + field f

abbrev pub in_length : Form → ℕ
in_length f = mark_length + field f + server_length

-- where the i-th removal's record stands, and after m removals the record of the j-th seat in use
abbrev pub out_at : Form → ℕ → ℕ
out_at f zero = head_length f
out_at f (suc i) = out_at f i + out_length f

abbrev pub in_at : Form → ℕ → ℕ → ℕ
in_at f m zero = out_at f m
in_at f m (suc j) = in_at f m j + in_length f
