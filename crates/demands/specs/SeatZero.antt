-- Request 3/13: "After seat 0 failed, its keys went to a few servers." That the fault was there, by the rule before; and that it is gone.
use Rattle.std.specs.Prelude.{◌≡◌, List, [], ◌∷◌, map, ℕ, ◌+◌, ◌%◌}
use Rattle.splitmix.specs.Generator.{output}
use Rattle.rules.specs.Table.{◌!◌, Bare, Table, words}
use Rattle.rules.specs.History.{Change, taking}
use Rattle.rules.specs.Keys.{first_of, pick_of, on, found, array_rule}
use Rattle.rules.specs.Examples.{after, Happens}
use Rattle.rules.specs.Answers.{fine}
use Rattle.find.specs.Find.{find_call}

-- The rule before: hash(b, k) was output b + 1, and so hash(0, k) was hash(k)
abbrev pub pick_before : ℕ → ℕ → ℕ → ℕ
pick_before k b n = output (b + 1) k % n

-- "the same output, reduced by two divisors": if d divides a and m, which is A[0], the first seat and the position drawn at seat 0 had the same remainder by d.
-- So the keys of one first seat drew each d-th position alone,
abbrev pub Clumped : Type 0
Clumped = (k a m d : ℕ) → a % d ≡ 0 → m % d ≡ 0 → pick_before k 0 m % d ≡ first_of k a % d

-- and where A[0] divides a, those whose first seat is 0 drew position 0
abbrev pub OnePosition : Type 0
OnePosition = (k a m : ℕ) → a % m ≡ 0 → first_of k a ≡ 0 → pick_before k 0 m ≡ 0

-- "with 8 seats and A[0] = 4": the servers 18, 17 and 16 leave, and then 11, which is on seat 0. Seats 4, 1, 2 and 3 stand in the line.
abbrev pub fails : List Change
fails = taking 18 7 ∷ taking 17 6 ∷ taking 16 5 ∷ taking 11 0 ∷ []

abbrev pub eight : Table
eight = after 8 fails

abbrev pub Eight : Type 0
Eight = Happens 8 fails × (eight.bare.A ! 0 ≡ 4)

-- "every such key lands on position 0": it came to seat 4
abbrev pub AllOnOne : Type 0
AllOnOne = (k : ℕ) → first_of k 8 ≡ 0 → (pick_before k 0 4 ≡ 0) × (array_rule eight.bare (pick_before k) 0 ≡ found (on 4 2) 1)

-- Now: four such keys, one for each position, on the four servers
abbrev pub four : List ℕ
four = 127 ∷ 6 ∷ 29 ∷ 43 ∷ []

abbrev pub Spread : Type 0
Spread =
    (map (λ (k : ℕ). first_of k 8) four ≡ 0 ∷ 0 ∷ 0 ∷ 0 ∷ []) × (map (λ (k : ℕ). pick_of k 0 4) four ≡ 0 ∷ 1 ∷ 2 ∷ 3 ∷ [])
    × (map (find_call (words eight)) four
    ≡ fine (4 ∷ 15 ∷ 2 ∷ 1 ∷ []) ∷ fine (1 ∷ 12 ∷ 2 ∷ 0 ∷ []) ∷ fine (2 ∷ 13 ∷ 2 ∷ 0 ∷ []) ∷ fine (3 ∷ 14 ∷ 2 ∷ 0 ∷ []) ∷ [])

-- "keys move once": a key whose first seat is in use stays where it was
abbrev pub Stays : Type 0
Stays =
    (T : Bare) (k : ℕ) → T.A ! first_of k T.seats ≡ 0
    → array_rule T (pick_of k) (first_of k T.seats) ≡ array_rule T (pick_before k) (first_of k T.seats)
