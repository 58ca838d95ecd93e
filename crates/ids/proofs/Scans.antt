-- The library's scans of a list are document 01's.
use Rattle.std.proofs.lemmas.List.Recursion.{same_from_clauses, is_position_or_len}
use Rattle.std.proofs.lemmas.Bool.{lt-ltb, le-ltb, ltb-false}
use Rattle.std.proofs.lemmas.List.Sums.{prefix_len-le-length}
use Rattle.std.specs.List.{list_any, position_or_len}
use Rattle.std.specs.Prelude.{Option, Some, None}
use Rattle.std.specs.Option.{unwrap_or}
use Rattle.promises.proofs.Prelude.{◌≡◌, refl, sym, suc, ap, ◌∙◌, Bool, true, false, cond, not, ◌&&◌, List, [], ◌∷◌, ℕ, ◌-◌, ◌<◌, ◌≤◌, arith, dec_lt, eqb, length, take, drop}
use lib.Dec.{ltb}
use mathlib.Core.Bool.{◌||◌, or_assoc, or-false}
use lib.Seq.{take_all}
use Rattle.rules.specs.Table.{◌!◌}
use Rattle.rules.specs.Ids.{occurs, repeats, place_of}

pub occurs_any : (id : ℕ) (l : List ℕ) → occurs id l ≡ list_any (λ x. eqb x id) l
unfolding occurs
occurs_any id = same_from_clauses (occurs id) (list_any (λ x. eqb x id)) (λ x (b : Bool). eqb x id || b) refl (λ x xs. refl) (λ x xs. refl)

pub place_position : (id : ℕ) (l : List ℕ) → place_of id l ≡ position_or_len (λ x. eqb x id) l
unfolding place_of
place_position id = is_position_or_len (place_of id) (λ x. eqb x id) refl (λ x xs. ap (λ (n : ℕ). cond (eqb x id) 0 n) (omega arith))

-- the place is before the end where the id is among them
occurs_lt : (id : ℕ) (l : List ℕ) → ltb (place_of id l) (length l) ≡ occurs id l
unfolding occurs place_of
occurs_lt id [] = refl
occurs_lt id (x ∷ l) = go (eqb x id) (occurs_lt id l)
  where
    go : (t : Bool) → ltb (place_of id l) (length l) ≡ occurs id l → ltb (cond t 0 (suc (place_of id l))) (suc (length l)) ≡ (t || occurs id l)
    go true h = lt-ltb _ _ (omega arith)
    go false h = elim (dec_lt (place_of id l) (length l)) [
      | yes y ↦ lt-ltb (suc (place_of id l)) _ (omega arith) ∙ (sym (lt-ltb _ _ y) ∙ h)
      | no n ↦ le-ltb (suc (place_of id l)) _ (omega arith) ∙ (sym (le-ltb _ _ (omega arith)) ∙ h)
    ]

pub place_found : (id : ℕ) (l : List ℕ)
    → cond (ltb (position_or_len (λ x. eqb x id) l) (length l)) (Some (position_or_len (λ x. eqb x id) l)) None ≡ cond (occurs id l) (Some (place_of id l)) None
place_found id l = rw (← place_position id l, occurs_lt id l) refl

-- an id that is nowhere has the length for a place
pub place_or_length : (id : ℕ) (l : List ℕ) (p : Option ℕ) (n : ℕ) → p ≡ cond (occurs id l) (Some (place_of id l)) None → n ≡ unwrap_or p (length l) → n ≡ place_of id l
place_or_length id l p n e h = h ∙ go (occurs id l) (occurs_lt id l) e
  where
    go : (t : Bool) → ltb (place_of id l) (length l) ≡ t → p ≡ cond t (Some (place_of id l)) None → unwrap_or p (length l) ≡ place_of id l
    go true f q = rw q refl
    go false f q =
        let most : position_or_len (λ x. eqb x id) l ≤ length l = prefix_len-le-length _ l in
        rw q (omega (arith, place_position id l, most, ltb-false _ _ f))

-- one more is looked at: the first of the rest
pub repeats_more : (hit again : Bool) (rest : List ℕ) → 1 ≤ length rest
    → again ≡ (not (eqb (rest ! 0) 0) && occurs (rest ! 0) (take (length rest - 1) (drop 1 rest)))
    → ((hit || again) || repeats (take (length rest - 1) (drop 1 rest))) ≡ (hit || repeats rest)
unfolding repeats
repeats_more hit again [] h e = absurd (omega arith)
repeats_more hit again (x ∷ xs) h e =
    let all : take (length (x ∷ xs) - 1) xs ≡ xs = take_all (length (x ∷ xs) - 1) xs (omega arith) in
    rw (e, all) (or_assoc hit _ _)

pub repeats_none : (hit : Bool) (rest : List ℕ) → length rest < 1 → (hit || repeats rest) ≡ hit
unfolding repeats
repeats_none hit [] h = or-false hit
repeats_none hit (x ∷ xs) h = absurd (omega arith)
