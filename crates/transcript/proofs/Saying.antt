-- A printed line, piece by piece: a word, and its numbers one after the other.
use Rattle.promises.proofs.Prelude.{◌≡◌, refl, ap, List, [], ◌∷◌, ◌++◌, append-nil, append_assoc, ℕ, ◌≤◌, ◌<◌, ◌+◌, ◌^◌, ◌*◌, add-one, arith, length, drop, drop-drop, ◌∙◌, length-drop, length-take-le, drop_of_length-le, ◌-◌}
use Rattle.promises.proofs.Prelude.{length-append, take, take-append-drop}
use lib.Seq.{take-suc}
use Rattle.rules.specs.Table.{◌!◌}
use lib.Seq.{sets-eq, take-length}
use Rattle.std.proofs.Common.{zero-add}
use borrow.Rule.Slice.PartMut.{put_mid}
use Rattle.decimals.specs.Decimal.{decimal}
use Rattle.decimals.specs.Places.{Put}
use Rattle.decimals.proofs.Stored.{put_then}
use Rattle.transcript.specs.declared.Output.{Output}
use Rattle.decimals.proofs.Opposites.{decimal_length}
use Rattle.lines.specs.Lines.{space, spaced}
use Rattle.transcript.specs.Printing.{said}
use Rattle.transcript.specs.Replies.{Adds, value_most, line_most}

spaced_append : (xs ys : List ℕ) → spaced (xs ++ ys) ≡ spaced xs ++ spaced ys
unfolding spaced
spaced_append [] ys = refl
spaced_append (x ∷ xs) ys = rw (spaced_append xs ys, append_assoc)

pub said_length : (word vs : List ℕ) → length (said word vs) ≡ length word + length (spaced vs) + 1
said_length word vs = simp length-append

-- numbers of 32 bits have ten digits at the most
abbrev pub Small : List ℕ → Type 0
Small [] = Unit {0}
Small (v ∷ vs) = (v < 2 ^ 32) × Small vs

spaced_most : (vs : List ℕ) → Small vs → length (spaced vs) ≤ value_most * length vs
unfolding spaced
spaced_most [] h = omega arith
spaced_most (v ∷ vs) h = omega (arith, length-append (decimal v) (spaced vs), decimal_length 19 9 v (omega (arith, h.0)), spaced_most vs h.1)

pub said_most : (word vs : List ℕ) → length word ≡ 2 → Small vs → length (said word vs) ≤ line_most (length vs)
said_most word vs e h = omega (arith, said_length word vs, spaced_most vs h)

-- the number at i
module _ (vs : List ℕ) (i : ℕ) (h : i < length vs) where
  pub spaced_take : spaced (take (i + 1) vs) ≡ spaced (take i vs) ++ (space ∷ decimal (vs ! i))
  unfolding spaced
  spaced_take = rw (add-one, take-suc vs i 0, spaced_append (take i vs) (vs ! i ∷ []), append-nil)

  pub spaced_room : length (spaced (take i vs)) + (1 + length (decimal (vs ! i))) ≤ length (spaced vs)
  spaced_room =
      let all = ap length (spaced_append (take (i + 1) vs) (drop (i + 1) vs)) in
      omega (arith, simp (take-append-drop, spaced_take, length-append) at all)

-- what is put behind what is written

module _ (l xs : List ℕ) (at k : ℕ) {ys : List ℕ} (room : at + length xs ≤ length l) where
  pub put_part : k ≡ length xs → ys ≡ xs → Put xs at l (at + length xs, put_mid at k l ys)
  put_part e w = record { fits = room; next = refl; bytes = rw (sets-eq xs l at room, append_assoc, w, e, drop-drop (length xs) at l) }

pub adds_then : {xs ys : List ℕ} {a b c : Output} → Adds xs a b → Adds ys b c → Adds (xs ++ ys) a c
adds_then p q = record { put = put_then p.put q.put; same = q.same ∙ p.same }

-- a store at the front of what is behind a place
pub put_rest : (l : List ℕ) (at : ℕ) {k to : ℕ} {bs ys : List ℕ} → at ≤ length l → k ≡ length l - at → Put bs 0 (take k (drop at l)) (to, ys) → Put bs at l (at + to, put_mid at k l ys)
put_rest l at {k} {to} {bs} {ys} h e p =
    let long = length-drop at l in
    let whole : take k (drop at l) ≡ drop at l = rw (e, ← long) (take-length (drop at l)) in
    let none : drop k (drop at l) ≡ [] = drop_of_length-le (drop at l) (omega arith) in
    let room : at + length bs ≤ length l = omega (arith, p.fits, length-take-le k (drop at l) (omega arith)) in
    let front = rw (whole, sets-eq bs (drop at l) 0 (omega arith)) at p.bytes in
    record { fits = room; next = omega (arith, p.next); bytes = rw (sets-eq bs l at room, append_assoc, front, none, append-nil, zero-add, drop-drop (length bs) at l) }
