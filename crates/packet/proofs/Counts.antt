-- The header is read from bytes that are alike, so it is the same; and then the words are, which matter only where the header keeps the rules.
use Rattle.promises.proofs.Prelude.{◌≡◌, ◌∙◌, sym, ap, inl, inr, true, false, not, ◌&&◌, List, [], ◌∷◌, ◌++◌, ℕ, ◌+◌, ◌*◌, ◌^◌, ◌%◌, ◌≤◌, ◌<◌, arith, dec_lt}
use Rattle.promises.proofs.Prelude.{length, length-append, eqb, le-leb, eq-eqb}
use native.Mathlib.Nat.{add_assoc}
use lib.ListN.{get_or-append}
use Rattle.promises.proofs.Decided.{true_or_false, bool_cases, both}
use Rattle.rules.specs.Table.{◌!◌}
use Rattle.fields.specs.Numbers.{number_at}
use Rattle.fields.proofs.Numbers.{number_same}
use Rattle.packet.specs.declared.Header.{Header}
use Rattle.packet.specs.Packet.{version, header4, header6, wants_ports, ports_fit, fits4, fits6, last_word, well_formed, words_of}
use Rattle.packet.specs.Key.{key_call}
use Rattle.packet.specs.Counts.{Same, SamePorts, SameReach, Alike4, Alike6, Counts4, Counts6, Behind4, Behind6}
use Rattle.packet.proofs.Fits.{fits4_short, ports_room}

-- one answer, if both are well-formed or neither is, and both have the same words where they are
call_same : (p q k : List ℕ) → well_formed p ≡ well_formed q → (well_formed p ≡ true → words_of p ≡ words_of q) → key_call p k ≡ key_call q k
unfolding key_call
call_same p q k form words = elim (bool_cases (well_formed p)) [
  | inl e ↦ rw (words e, form)
  | inr e ↦ rw (← form, e)
]

same_part : (p q : List ℕ) (at n j m : ℕ) → j + m ≤ n → Same p q at n → Same p q (at + j) m
same_part p q at n j m h s i l = rw (add_assoc at j i) (s (j + i) (omega arith))

last_same : (p q : List ℕ) (h : Header) → SamePorts p q h → ports_fit h ≡ true → last_word p h ≡ last_word q h
last_same p q h ports fits = elim (bool_cases (wants_ports h)) [
  | inl e ↦
      let s = ports e (ports_room h e fits) in
      rw (e, number_same p q h.end 2 (λ i l. s i (omega arith)), number_same p q (h.end + 2) 2 (same_part p q h.end 4 2 2 (omega arith) s))
  | inr e ↦ rw e
]

module _ (p q : List ℕ) where
  module _ (a : Alike4 p q) where
    four : eqb (version p) 4 ≡ true
    four = eq-eqb (version p) 4 a.four

    four' : eqb (version q) 4 ≡ true
    four' = eq-eqb (version q) 4 (rw (← a.first) a.four)

    header_4 : header4 p ≡ header4 q
    header_4 =
        let first = ap (λ (b : ℕ). b % 16 * 4) a.first in
        let total = number_same p q 2 2 a.total in
        λ i. record { end = first i; total = total i; protocol = a.protocol i; fragment = a.fragment i }

    form_4 : well_formed p ≡ well_formed q
    unfolding well_formed
    form_4 = rw (four, four', a.reach) (ap (λ (h : Header). fits4 h (length q) && ports_fit h) header_4)

    words_4 : well_formed p ≡ true → words_of p ≡ words_of q
    unfolding well_formed words_of
    words_4 e =
        let fits = (both (fits4 (header4 p) (length p)) (ports_fit (header4 p)) (rw four at e)).1 in
        let last = last_same p q (header4 p) a.ports fits ∙ ap (last_word q) header_4 in
        let source = number_same p q 12 4 (λ i l. a.addresses i (omega arith)) in
        let destination = number_same p q 16 4 (same_part p q 12 8 4 4 (omega arith) a.addresses) in
        rw (four, four') (λ i. (source i * 2 ^ 32 + destination i) ∷ last i ∷ [])

  module _ (a : Alike6 p q) where
    header_6 : header6 p ≡ header6 q
    header_6 = let payload = number_same p q 4 2 a.payload in λ i. record { end = 40; total = 40 + payload i; protocol = a.protocol i; fragment = false }

    form_6 : well_formed p ≡ well_formed q
    unfolding well_formed
    form_6 = rw (a.six.0, a.six.1, a.reach) (ap (λ (h : Header). fits6 h (length q) && ports_fit h) header_6)

    address : (j : ℕ) → j < 4 → number_at p (8 + 8 * j) 8 ≡ number_at q (8 + 8 * j) 8
    address j l = number_same p q (8 + 8 * j) 8 (same_part p q 8 32 (8 * j) 8 (omega arith) a.addresses)

    words_6 : well_formed p ≡ true → words_of p ≡ words_of q
    unfolding well_formed words_of
    words_6 e =
        let fits = (both (fits6 (header6 p) (length p)) (ports_fit (header6 p)) (rw a.six.0 at e)).1 in
        let last = last_same p q (header6 p) a.ports fits ∙ ap (last_word q) header_6 in
        let a₀ = address 0 (omega arith) in
        let a₁ = address 1 (omega arith) in
        let a₂ = address 2 (omega arith) in
        let a₃ = address 3 (omega arith) in
        rw (a.six.0, a.six.1) (λ i. a₀ i ∷ a₁ i ∷ a₂ i ∷ a₃ i ∷ last i ∷ [])

pub counts_4 : Counts4
counts_4 p q k a = call_same p q k (form_4 p q a) (words_4 p q a)

pub counts_6 : Counts6
counts_6 p q k a = call_same p q k (form_6 p q a) (words_6 p q a)

-- less than the shortest header
short : (p : List ℕ) → version p ≡ 4 → (header4 p).total < 20 → well_formed p ≡ false
unfolding well_formed
short p four l = rw (eq-eqb (version p) 4 four, fits4_short (header4 p) (length p) (inr l))

module _ (p x : List ℕ) where
  kept : (i : ℕ) → i < length p → p ! i ≡ (p ++ x) ! i
  kept i l = sym (get_or-append p x 0 i l)

  same_kept : (at n : ℕ) → at + n ≤ length p → Same p (p ++ x) at n
  same_kept at n h i l = kept (at + i) (omega arith)

  reach_kept : (h : Header) → h.total ≤ length p → SameReach p (p ++ x) h
  reach_kept h given = le-leb _ _ given ∙ sym (le-leb h.total (length (p ++ x)) (simp length-append (omega arith)))

  ports_kept : (h : Header) → h.total ≤ length p → SamePorts p (p ++ x) h
  ports_kept h given wanted fits = same_kept h.end 4 (omega arith)

pub behind_4 : Behind4
behind_4 p x k four least given = elim (dec_lt (length p) 20) [
  | yes l ↦
      let none = short p four (omega arith) in
      let none' = short (p ++ x) (rw (← kept p x 0 (omega arith)) four) (rw (← total) (omega arith)) in
      call_same p (p ++ x) k (none ∙ sym none') (λ e. true_or_false (well_formed p) e none)
  | no l ↦
      counts_4 p (p ++ x) k
      (record {
        four = four;
        first = kept p x 0 (omega arith);
        total = same_kept p x 2 2 (omega arith);
        fragment = ap (λ (n : ℕ). not (eqb (n % 2 ^ 14) 0)) (number_same p (p ++ x) 6 2 (same_kept p x 6 2 (omega arith)));
        protocol = kept p x 9 (omega arith);
        addresses = same_kept p x 12 8 (omega arith);
        ports = ports_kept p x (header4 p) given;
        reach = reach_kept p x (header4 p) given;
      })
]
  where
    total : number_at p 2 2 ≡ number_at (p ++ x) 2 2
    total = number_same p (p ++ x) 2 2 (same_kept p x 2 2 (omega arith))

pub behind_6 : Behind6
behind_6 p x k six given =
    counts_6 p (p ++ x) k
    (record {
      six = (six, rw (← kept p x 0 (omega arith)) six);
      payload = same_kept p x 4 2 (omega arith);
      protocol = kept p x 6 (omega arith);
      addresses = same_kept p x 8 32 (omega arith);
      ports = ports_kept p x (header6 p) given;
      reach = reach_kept p x (header6 p) given;
    })
