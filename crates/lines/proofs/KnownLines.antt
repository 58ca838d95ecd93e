-- A line is read as what its bytes say: the word where it stands, and behind it number by number, each by Opposites.
use Rattle.promises.proofs.Prelude.{◌≡◌, refl, ◌∙◌, sym, ap, subst, inl, inr, ◌⊎◌, true, false, List, [], ◌∷◌, ◌++◌, ℕ, ◌-◌, ◌≤◌, ◌<◌, ◌+◌, suc, zero, ◌^◌}
use Rattle.promises.proofs.Prelude.{arith, length, drop, length-append}
use mathlib.Core.Logic.{⊎_elim}
use Rattle.promises.proofs.Decided.{true_or_false, bool_cases}
use Rattle.rules.specs.Table.{◌!◌}
use Rattle.decimals.specs.Decimal.{decimal, Read, got, bad}
use Rattle.decimals.specs.Opposites.{Parted}
use Rattle.decimals.proofs.Opposites.{decimal_some, read_cases, theorem as opposites}
use Rattle.lines.specs.Lines.{space, next, last, given, most_id, ids_of, ids_in, with_a, starts, open_word, seat_word, out_word, find_word, Command, open_line}
use Rattle.lines.specs.Lines.{seat_line, out_line, find_line, unknown, command_of, spaced}
use Rattle.lines.specs.KnownLines.{ComesApart, Known, KnownLines, OtherLines, OneCommand}
use Rattle.lines.proofs.Words.{starts_append, starts_cases, next_got}

-- numbers, each behind a space, are read

spaced_length : (vs : List ℕ) → length vs ≤ length (spaced vs)
unfolding spaced
spaced_length [] = omega arith
spaced_length (v ∷ vs) = omega (arith, length-append (decimal v) (spaced vs), spaced_length vs)

spaced_parted : (vs : List ℕ) → Parted space (spaced vs)
unfolding spaced
spaced_parted [] = tt
spaced_parted (v ∷ vs) = refl

next_spaced : (limit v : ℕ) (vs : List ℕ) → limit ≤ 2 ^ 64 → v < limit → next (limit - 1) (spaced (v ∷ vs)) ≡ got v (spaced vs)
unfolding next spaced
next_spaced limit v vs most h =
    (opposites space (limit - 1) v (decimal v ++ spaced vs) (spaced vs) refl (omega arith)).0
    (record { most = omega arith; text = refl; parted = spaced_parted vs })

ids_of_spaced : (most : ℕ) (ids : List ℕ) → length ids < most → ((i : ℕ) → ids ! i < 2 ^ 32) → ids_of most (spaced ids) ≡ record { ids = ids; whole = true }
unfolding ids_of spaced
ids_of_spaced zero ids h below = absurd (omega arith)
ids_of_spaced (suc most) [] h below = refl
ids_of_spaced (suc most) (id ∷ ids) h below = rw (next_spaced (2 ^ 32) id ids (omega arith) (below 0), ids_of_spaced most ids (omega arith) (λ i. below (suc i)))

command_of_known : (l : List ℕ) (c : Command) → Known l c → command_of l ≡ c
unfolding command_of spaced
command_of_known l (open_line a ids) k =
    let all = ids_of_spaced (suc (length (spaced ids))) ids (omega (arith, spaced_length ids)) (λ i. k.below (suc i)) in
    rw (k.bytes, next_spaced (2 ^ 32) a ids (omega arith) (k.below 0), all)
command_of_known l (seat_line id) k = rw (k.bytes, next_spaced (2 ^ 32) id [] (omega arith) (k.below 0))
command_of_known l (out_line id) k = rw (k.bytes, next_spaced (2 ^ 32) id [] (omega arith) (k.below 0))
command_of_known l (find_line key) k = rw (k.bytes, next_spaced (2 ^ 64) key [] (omega arith) (k.below 0))
command_of_known l unknown k = absurd k

-- what is read comes apart; behind the word there is none before the numbers

nothing_apart : {limit : ℕ} → 0 < limit → ComesApart [] [] limit []
unfolding spaced
nothing_apart h = record { bytes = refl; below = λ i. h }

next_apart : {limit : ℕ} {bs : List ℕ} {v : ℕ} {rest vs : List ℕ} → (0 < limit) × (limit ≤ 2 ^ 64) → next (limit - 1) bs ≡ got v rest
    → ComesApart rest [] limit vs → ComesApart bs [] limit (v ∷ vs)
unfolding spaced
next_apart {limit} {bs} h e a =
    let g = next_got (limit - 1) bs (omega arith) e in
    record { bytes = cc; below = elim [ zero ↦ omega (arith, g.most) | suc i ↦ a.below i ] }

ids_of_apart : (most : ℕ) (bs : List ℕ) → (ids_of most bs).whole ≡ true → ComesApart bs [] (2 ^ 32) (ids_of most bs).ids
unfolding ids_of
ids_of_apart zero bs e = true_or_false false e refl
ids_of_apart (suc most) [] e = nothing_apart (omega arith)
ids_of_apart (suc most) (b ∷ bs) e = elim (read_cases (next most_id (b ∷ bs))) [
  | inl q ↦ true_or_false false (rw q at e) refl
  | inr (id, rest, q) ↦ rw q (next_apart (omega arith) q (ids_of_apart most rest (rw q at e)))
]

module _ (l : List ℕ) where
  starts_apart : {word : List ℕ} {limit : ℕ} {vs : List ℕ} → starts word l ≡ true → ComesApart (drop (length word) l) [] limit vs → ComesApart l word limit vs
  starts_apart {word} s a = record { bytes = cc (starts_append word l s); below = a.below }

  abbrev UnknownOr : Command → Type 0
  UnknownOr c = (c ≡ unknown) ⊎ Known l c

  given_known : (word : List ℕ) (limit : ℕ) (f : ℕ → Command) → (0 < limit) × (limit ≤ 2 ^ 64) → ((v : ℕ) → ComesApart l word limit (v ∷ []) → Known l (f v))
      → starts word l ≡ true → UnknownOr (given f (last (next (limit - 1) (drop (length word) l))))
  given_known word limit f h k s = go (next (limit - 1) (drop (length word) l)) refl
    where
      go : (r : Read) → next (limit - 1) (drop (length word) l) ≡ r → UnknownOr (given f (last r))
      go bad e = inl refl
      go (got v []) e = inr (k v (starts_apart s (next_apart h e (nothing_apart h.0))))
      go (got v (b ∷ bs)) e = inl refl

  with_a_known : starts open_word l ≡ true → UnknownOr (with_a (next most_id (drop 4 l)))
  with_a_known s = elim (read_cases (next most_id (drop 4 l))) [
    | inl e ↦ rw e (inl refl)
    | inr (a, bs, e) ↦ elim (bool_cases (ids_in bs).whole) [
      | inl w ↦ rw (e, w) (inr (starts_apart s (next_apart (omega arith) e (ids_of_apart (suc (length bs)) bs w))))
      | inr w ↦ rw (e, w) (inl refl)
    ]
  ]

  known_command_of : UnknownOr (command_of l)
  unfolding command_of
  known_command_of =
      starts_cases UnknownOr open_word l with_a_known
      (starts_cases UnknownOr seat_word l (given_known seat_word (2 ^ 32) seat_line (omega arith) (λ v a. a))
      (starts_cases UnknownOr out_word l (given_known out_word (2 ^ 32) out_line (omega arith) (λ v a. a))
      (starts_cases UnknownOr find_word l (given_known find_word (2 ^ 64) find_line (omega arith) (λ v a. a))
      (inl refl))))

pub theorem : KnownLines
theorem l c other = (λ e. ⊎_elim (λ u. absurd (other (sym e ∙ u))) (subst (Known l) e) (known_command_of l), command_of_known l c)

pub other_lines : OtherLines
other_lines l = (λ e c k. subst (Known l) (sym (command_of_known l c k) ∙ e) k, λ none. ⊎_elim (λ u. u) (λ k. absurd (none (command_of l) k)) (known_command_of l))

pub one_command : OneCommand
one_command l c d p q = cc (command_of_known l c p, command_of_known l d q)

-- how long a known line is: its word, a space and a digit

abbrev pub least : Command → ℕ
least (open_line a ids) = 6
least (seat_line id) = 6
least (out_line id) = 5
least (find_line key) = 6
least unknown = 0

apart_least : {l word : List ℕ} {limit v : ℕ} {vs : List ℕ} → ComesApart l word limit (v ∷ vs) → length word + 2 ≤ length l
unfolding spaced
apart_least {v = v} k = rw k.bytes (simp length-append (omega (arith, decimal_some 19 v)))

known_least : (l : List ℕ) (c : Command) → Known l c → least c ≤ length l
known_least l (open_line a ids) k = apart_least k
known_least l (seat_line id) k = apart_least k
known_least l (out_line id) k = apart_least k
known_least l (find_line key) k = apart_least k
known_least l unknown k = absurd k

pub line_least : (l : List ℕ) → least (command_of l) ≤ length l
line_least l = ⊎_elim (λ u. omega (arith, ap least u)) (known_least l (command_of l)) (known_command_of l)
