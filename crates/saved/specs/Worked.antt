-- Document 01, 'The saved record': seven seats with ids 11 to 17, after 17, 16 and 12 are taken out, give these 50 bytes.
use Rattle.std.specs.Prelude.{◌≡◌, List, [], ◌∷◌, ◌++◌, ℕ}
use Rattle.rules.specs.Examples.{after, h1}
use Rattle.saved.specs.Record.{record_of, IsRecord}

abbrev front : List ℕ
front = 0x41 ∷ 0x53 ∷ 0x00 ∷ 0x07 ∷ 0x00 ∷ 0x04 ∷ 0x4F ∷ 0x55 ∷ 0x00 ∷ 0x06 ∷ 0x4F ∷ 0x55 ∷ 0x00 ∷ 0x05 ∷ 0x4F ∷ 0x55 ∷ 0x00 ∷ 0x01 ∷ []

abbrev seat0 : List ℕ
seat0 = 0x49 ∷ 0x4E ∷ 0x00 ∷ 0x00 ∷ 0x00 ∷ 0x00 ∷ 0x00 ∷ 0x0B ∷ []

abbrev seat2 : List ℕ
seat2 = 0x49 ∷ 0x4E ∷ 0x00 ∷ 0x02 ∷ 0x00 ∷ 0x00 ∷ 0x00 ∷ 0x0D ∷ []

abbrev seat3 : List ℕ
seat3 = 0x49 ∷ 0x4E ∷ 0x00 ∷ 0x03 ∷ 0x00 ∷ 0x00 ∷ 0x00 ∷ 0x0E ∷ []

abbrev seat4 : List ℕ
seat4 = 0x49 ∷ 0x4E ∷ 0x00 ∷ 0x04 ∷ 0x00 ∷ 0x00 ∷ 0x00 ∷ 0x0F ∷ []

abbrev pub fifty : List ℕ
fifty = front ++ seat0 ++ seat2 ++ seat3 ++ seat4

abbrev pub Worked : Type 0
Worked = (record_of (after 7 h1) ≡ fifty) × IsRecord fifty

-- with its seats in use descending it is no record of any sound table
abbrev pub descending : List ℕ
descending = front ++ seat4 ++ seat3 ++ seat2 ++ seat0

abbrev pub Ascending : Type 0
Ascending = IsRecord descending → ⊥
