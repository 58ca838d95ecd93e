-- Document 01, 'Numbers a call can answer': FORM, "the bytes are no record of any sound table".
use Rattle.std.specs.Prelude.{Option, Some, None, List, ℕ}
use Rattle.saved.specs.Record.{IsRecord}
use Rattle.saved.proofs.Back.{record?}
use Rattle.form.specs.declared.Recorded.{Recorded}

-- a and N of the table whose record it is
abbrev pub form_in : {s : List ℕ} → Dec (IsRecord s) → Option Recorded
form_in (yes r) = Some (record { seats = r.table.bare.seats; used = r.table.bare.used })
form_in (no n) = None

-- are the bytes s a record? `record?` decides it: it is a proof of `IsRecord s`, or of its contrary
unfoldable pub form_of : List ℕ → Option Recorded
form_of s = form_in (record? s)
