-- The ids of a line, one at a time: those read so far, before those of the rest.
use Rattle.promises.proofs.Prelude.{◌≡◌, refl, sym, inl, inr, true, false, Bool, cond, List, [], ◌∷◌, ◌++◌, append-nil, ℕ, ◌≤◌, ◌<◌, ◌+◌, suc, zero, ◌*◌}
use Rattle.promises.proofs.Prelude.{add-one, arith, length, drop, set, length-set, take, take-append-drop, length-take-le}
use Rattle.promises.proofs.Prelude.{drop-drop, eqb-true}
use Rattle.std.specs.Prelude.{Some, None, eqb}
use lib.Seq.{drop-set-lt, take-suc-set, append_snoc}
use Rattle.decimals.specs.Decimal.{Read, got, bad}
use Rattle.decimals.proofs.Opposites.{read_cases}
use Rattle.lines.specs.Lines.{next, most_id, no_ids, before, ids_of, ids_in, ids_behind, with_a, open_line, unknown}
use Rattle.lines.specs.declared.Line.TheVariants.{Open}
use Rattle.lines.specs.Readings.{IsLine, line_from}
use Rattle.lines.proofs.Words.{next_got}

-- any number above the bytes' number does
ids_of_most : (m n : ℕ) (bs : List ℕ) → length bs < m → length bs < n → ids_of m bs ≡ ids_of n bs
unfolding ids_of
ids_of_most zero n bs h k = absurd (omega arith)
ids_of_most (suc m) zero bs h k = absurd (omega arith)
ids_of_most (suc m) (suc n) [] h k = refl
ids_of_most (suc m) (suc n) (b ∷ bs) h k = elim (read_cases (next most_id (b ∷ bs))) [
  | inl e ↦ rw e
  | inr (id, rest, e) ↦ let g = next_got most_id (b ∷ bs) (omega arith) e in rw (e, ids_of_most m n rest (omega arith) (omega arith))
]

-- an id, and the ids behind it
ids_got : (bs rest : List ℕ) (id : ℕ) → 0 < length bs → got id rest ≡ next most_id bs → ids_in bs ≡ before id (ids_in rest)
unfolding ids_of
ids_got [] rest id h e = absurd (omega arith)
ids_got (b ∷ bs) rest id h e =
    let g = next_got most_id (b ∷ bs) (omega arith) (sym e) in
    cc (ids_of_most (length (b ∷ bs)) (suc (length rest)) rest (omega arith) (omega arith))

broken : (bs : List ℕ) → 0 < length bs → bad ≡ next most_id bs → ids_in bs ≡ no_ids false
unfolding ids_of
broken [] h e = absurd (omega arith)
broken (b ∷ bs) h e = rw (← e)

-- what `is_empty` says

pub empty : (bs : List ℕ) → eqb (length bs) 0 ≡ true → bs ≡ []
empty [] h = refl
empty (b ∷ bs) h = absurd (omega (arith, eqb-true (length (b ∷ bs)) 0 h))

pub some_left : (bs : List ℕ) → eqb (length bs) 0 ≡ false → 0 < length bs
some_left [] h = cc
some_left (b ∷ bs) h = omega arith

-- the first n of the list are the ids of `all` before `rest`, and each took two bytes or more
pub record Listing (all into₀ into rest : List ℕ) (n : ℕ) : Type 0 where
  pub long : length into ≡ length into₀
  pub room : 2 * n + length rest ≤ 2 * length into₀
  pub kept : drop n into ≡ drop n into₀
  pub ids : take n into ++ (ids_in rest).ids ≡ (ids_in all).ids
  pub whole : (ids_in rest).whole ≡ (ids_in all).whole

pub listing_none : (into all : List ℕ) → length all ≤ 2 * length into → Listing all into into all 0
listing_none into all h = record { long = refl; room = omega arith; kept = refl; ids = refl; whole = refl }

module _ {all into₀ into rest : List ℕ} {n : ℕ} (l : Listing all into₀ into rest n) where
  module _ (h : 0 < length rest) where
    pub listing_room : n < length into
    listing_room = omega arith

    pub listing_more : (id : ℕ) (behind : List ℕ) → got id behind ≡ next most_id rest → Listing all into₀ (set into n id) behind (n + 1)
    listing_more id behind e =
        let g = next_got most_id rest (omega arith) (sym e) in
        let more = ids_got rest behind id h e in
        record {
          long = simp length-set l.long;
          room = omega arith;
          kept = rw (drop-set-lt (n + 1) into n id (omega arith), ← drop-drop 1 n into, ← drop-drop 1 n into₀, l.kept);
          ids = rw (add-one, take-suc-set into n id listing_room, append_snoc) (cc);
          whole = cc;
        }

  -- the line that it is behind a, if no more ids are read
  module _ (a : ℕ) {x : Read} (first : got a all ≡ x) where
    listing_line : (whole : Bool) → ids_in rest ≡ no_ids whole → IsLine (with_a x, (ids_behind x).ids) into₀ (cond whole (Some (Open a n)) None, into)
    listing_line whole e =
        let is : (ids_in all).ids ≡ take n into = cc (append-nil (take n into)) in
        let w : (ids_in all).whole ≡ whole = cc in
        let long = length-take-le n into (omega arith) in
        rw (← first, is, w)
        (record { line = elim whole as (λ w. cond w (Some (Open a n)) None ≡ line_from (cond w (open_line a (take n into)) unknown)) [ true ↦ rw long | false ↦ refl ]; stand = rw (long, ← l.kept) (sym (take-append-drop n into)) })

    pub listing_ends : eqb (length rest) 0 ≡ true → IsLine (with_a x, (ids_behind x).ids) into₀ (Some (Open a n), into)
    unfolding ids_of
    listing_ends h = listing_line true (rw (empty rest h))

    pub listing_breaks : 0 < length rest → bad ≡ next most_id rest → IsLine (with_a x, (ids_behind x).ids) into₀ (None, into)
    unfolding ids_of
    listing_breaks h e = listing_line false (broken rest h e)
