-- Document 01, 'The saved record': "The length is 6 + 4(a-N) + 8N." The lengths of the head, of the removals and of the seats in use, added up.
use Rattle.std.specs.Prelude.{◌≡◌, ℕ, ◌+◌, ◌*◌, ◌-◌, length}
use Rattle.rules.specs.Table.{Table}
use Rattle.rules.specs.History.{Reached}
use Rattle.fields.specs.Form.{form_for, head_length, out_length, in_length}
use Rattle.saved.specs.Record.{record_of}

abbrev pub record_length : ℕ → ℕ → ℕ
record_length a N = let f = form_for a in head_length f + out_length f * (a - N) + in_length f * N

abbrev pub Length : Type 0
Length = (T : Table) → Reached T → length (record_of T) ≡ record_length T.bare.seats T.bare.used

-- in bytes
abbrev pub InBytes : Type 0
InBytes = (a N : ℕ) → record_length a N ≡ 6 + 4 * (a - N) + 8 * N
