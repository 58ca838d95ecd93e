-- A table and its run of words: each reads back as the other, and a store into a part is a store into the run.
use Rattle.promises.proofs.Prelude.{◌≡◌, refl, ◌∙◌, sym, ap, subst, ap₂, true, ◌&&◌, List, [], ◌∷◌, ◌++◌, append-nil, append_assoc, ℕ, ◌-◌, ◌≤◌, ◌<◌, ◌+◌, suc}
use Rattle.promises.proofs.Prelude.{zero, ◌*◌, arith, length, drop, set, length-set, take, length-drop, drop_of_length-le, take-append-drop, get_or, length-take}
use Rattle.promises.proofs.Prelude.{drop-drop, get_or-take, eqb, eq-eqb, le-leb, eqb-true}
use native.Mathlib.Nat.{mul-le-mul_right, suc-mul, min-eq_left}
use lib.Seq.{get_or-drop, set-append_left, take-append-add, drop-append-add}
use lib.Dec.{leb}
use borrow.Author.Tests.{leb-true}
use Rattle.promises.proofs.Decided.{both}
use Rattle.rules.specs.Table.{◌!◌, Table, head, parts, front, part_count, joined, words, base, run_length, most_seats, part, table_for, table_of, legal}
use Rattle.rules.specs.Runs.{Legal, All, none, more, Holds}
use Rattle.rules.proofs.Parts.{set_append_add, set_joined, part_joined, All-set, length_joined, joined_with, All-with}

-- a run of legal shape
pub is_legal_lem : (w : List ℕ) → legal w ≡ true → Legal w (w ! 0)
is_legal_lem w e =
    let h₁ = both (leb front (length w) && leb 1 (w ! 0) && leb (w ! 0) most_seats) (eqb (length w) (run_length (w ! 0))) e in
    let h₂ = both (leb front (length w) && leb 1 (w ! 0)) (leb (w ! 0) most_seats) h₁.0 in
    let h₃ = both (leb front (length w)) (leb 1 (w ! 0)) h₂.0 in
    record { first = refl; some = leb-true 1 (w ! 0) h₃.1; shape = record { size = eqb-true _ _ h₁.1; most = leb-true (w ! 0) most_seats h₂.1 } }

pub legal_is : (w : List ℕ) → Legal w (w ! 0) → legal w ≡ true
legal_is w h =
    simp (le-leb front (length w) (omega arith), le-leb 1 (w ! 0) h.some, le-leb (w ! 0) most_seats h.shape.most, eq-eqb (length w) (run_length (w ! 0)) h.shape.size)

next : (a k : ℕ) → base a k + a ≡ base a (suc k)
next a k = omega (arith, suc-mul k a)

-- n parts from part k on
module _ (w : List ℕ) (a : ℕ) where
  abbrev slices : ℕ → ℕ → List (List ℕ)
  slices k zero = []
  slices k (suc n) = part a k w ∷ slices (suc k) n

  joined_slices : (n k m : ℕ) → k + n ≡ m → joined (slices k n) ++ drop (base a m) w ≡ drop (base a k) w
  joined_slices zero k m h = let e : k ≡ m = omega arith in rw e refl
  joined_slices (suc n) k m h =
      append_assoc (part a k w) (joined (slices (suc k) n)) (drop (base a m) w)
      ∙ ap (λ (l : List ℕ). part a k w ++ l) (joined_slices n (suc k) m (omega arith) ∙ ap (λ (i : ℕ). drop i w) (sym (next a k)) ∙ sym (drop-drop a (base a k) w))
      ∙ take-append-drop a (drop (base a k) w)

  sized_slices : (n k : ℕ) → base a (k + n) ≤ length w → All a (slices k n)
  sized_slices zero k h = none
  sized_slices (suc n) k h =
      let more_parts : base a (suc k) ≤ base a (k + suc n) = let fewer : suc k ≤ k + suc n = omega arith in omega (arith, mul-le-mul_right a fewer) in
      let same : suc k + n ≡ k + suc n = omega arith in
      let long : length (part a k w) ≡ a = simp (length-take, length-drop) (min-eq_left (omega (arith, next a k))) in
      more long (sized_slices n (suc k) (rw same h))

headed : (w : List ℕ) → front ≤ length w → head (table_of w) ++ drop front w ≡ w
headed [] h = absurd (omega arith)
headed (x ∷ []) h = absurd (omega arith)
headed (x ∷ y ∷ r) h = refl

-- what a run holds, written out, is that run
pub words_table_of : (w : List ℕ) → length w ≡ run_length (w ! 0) → words (table_of w) ≡ w
words_table_of w size =
    let a = w ! 0 in
    let first : base a 0 ≡ front = omega arith in
    let all : joined (parts (table_of w)) ≡ drop front w =
    sym (append-nil (joined (parts (table_of w))))
    ∙ ap (λ (l : List ℕ). joined (parts (table_of w)) ++ l) (sym (drop_of_length-le w {i = run_length a} (omega arith)))
    ∙ joined_slices w a part_count 0 part_count refl
    ∙ ap (λ (n : ℕ). drop n w) first in
    ap (λ (l : List ℕ). head (table_of w) ++ l) all ∙ headed w (omega arith)

pub sized_table_of : (w : List ℕ) → length w ≡ run_length (w ! 0) → All (w ! 0) (parts (table_of w))
sized_table_of w size = sized_slices w (w ! 0) part_count 0 (omega arith)

pub holds_words : (T : Table) (a : ℕ) → All a (parts T) → Holds (words T) (head T) a (parts T)
holds_words T a all = record { is = refl; fronts = refl; sized = all }

pub holds_table : (w : List ℕ) (a : ℕ) → w ! 0 ≡ a → length w ≡ run_length a → Holds w (head (table_for a w)) a (parts (table_for a w))
holds_table w a first size =
    subst (λ (n : ℕ). Holds w (head (table_for n w)) n (parts (table_for n w))) first
    (let long : length w ≡ run_length (w ! 0) = rw first size in record { is = sym (words_table_of w long); fronts = refl; sized = sized_table_of w long })

module _ {w h : List ℕ} {a : ℕ} {ps : List (List ℕ)} (holds : Holds w h a ps) where
  past : (k i : ℕ) → base a k + i ≡ length h + (k * a + i)
  past k i = omega (arith, holds.fronts)

  begins : (k : ℕ) → base a k ≡ length h + k * a
  begins k = omega (arith, holds.fronts)

  pub holds_part : (k : ℕ) → k < length ps → part a k w ≡ get_or ps k []
  holds_part k hk = rw (holds.is, begins k, drop-append-add h (joined ps) (k * a)) (part_joined holds.sized k hk)

module _ {w w' h : List ℕ} {a : ℕ} {ps : List (List ℕ)} (holds : Holds w h a ps) where
  -- a store at i of the head, and at i of part k
  pub holds_head : (i v : ℕ) → i < front → w' ≡ set w i v → Holds w' (set h i v) a ps
  holds_head i v hi e =
      record {
        is = e ∙ ap (λ (l : List ℕ). set l i v) holds.is ∙ set-append_left h (joined ps) i v (omega (arith, holds.fronts));
        fronts = length-set h i v ∙ holds.fronts;
        sized = holds.sized;
      }

  pub holds_put : (k i v : ℕ) → k < length ps → i < a → w' ≡ set w (base a k + i) v → Holds w' h a (set ps k (set (get_or ps k []) i v))
  holds_put k i v hk hi e =
      record {
        is =
            e
            ∙ ap₂ (λ (l : List ℕ) (n : ℕ). set l n v) holds.is (past holds k i)
            ∙ set_append_add h (joined ps) (k * a + i) v
            ∙ ap (λ (l : List ℕ). h ++ l) (set_joined holds.sized k i v hk hi);
        fronts = holds.fronts;
        sized = All-set holds.sized k i v;
      }

  -- part k replaced
  pub holds_with : (k : ℕ) (new : List ℕ) → k < length ps → length new ≡ a
      → w' ≡ take (base a k) w ++ (new ++ drop (base a k + a) w) → Holds w' h a (set ps k new)
  holds_with k new hk long e =
      record {
        is =
            e
            ∙ rw (← drop-drop a (base a k) w, holds.is, begins holds k, take-append-add h (joined ps) (k * a), drop-append-add h (joined ps) (k * a))
            (append_assoc h _ _ ∙ ap (λ (l : List ℕ). h ++ l) (joined_with new holds.sized k hk));
        fronts = holds.fronts;
        sized = All-with new long holds.sized k;
      }

-- a table whose parts are a words each, written out, reads back
pub table_of_words : (T : Table) → All T.bare.seats (parts T) → table_of (words T) ≡ T
table_of_words T all =
    let same : (k : ℕ) → k < part_count → part T.bare.seats k (words T) ≡ get_or (parts T) k [] = λ k h. holds_part (holds_words T T.bare.seats all) k h in
    λ i. record {
      bare = record { seats = T.bare.seats; used = T.bare.used; A = same 0 (omega arith) i; K = same 1 (omega arith) i; W = same 2 (omega arith) i; L = same 3 (omega arith) i; R = same 4 (omega arith) i };
      S = same 5 (omega arith) i;
    }

-- a part ends within the run
pub part_fits : (a k : ℕ) → k < part_count → base a k + a ≤ run_length a
part_fits a k h = omega (arith, mul-le-mul_right a h, suc-mul k a)

pub part_length : (w : List ℕ) (k : ℕ) → length w ≡ run_length (w ! 0) → k < part_count → length (part (w ! 0) k w) ≡ w ! 0
part_length w k size h = simp (length-take, length-drop, size) (min-eq_left (omega (arith, part_fits (w ! 0) k h)))

pub length_words : (T : Table) → All T.bare.seats (parts T) → length (words T) ≡ run_length T.bare.seats
length_words T all = omega (arith, length_joined all)

-- a part's word is a word of the run
pub part_word : (w : List ℕ) (a k i : ℕ) → i < a → part a k w ! i ≡ w ! (base a k + i)
part_word w a k i h = rw (get_or-take, get_or-drop) refl

-- a part that is lent
pub part_lent : (w : List ℕ) (a k : ℕ) → take (base a k + a - base a k) (drop (base a k) w) ≡ part a k w
part_lent w a k =
    let l : base a k + a - base a k ≡ a = omega arith in
    rw l refl
