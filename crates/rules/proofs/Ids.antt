-- What the tests of a list of ids say of each place of it.
use Rattle.promises.proofs.Prelude.{◌≡◌, refl, sym, ◌≢◌, true, false, Bool, not, ◌&&◌, cond, List, [], ◌∷◌, ℕ, ◌<◌, suc, zero, arith, length, eqb, ne_eqb}
use Rattle.promises.proofs.Prelude.{eq-eqb, eqb-true}
use mathlib.Core.Bool.{◌||◌}
use borrow.Author.Tests.{eqb-false}
use Rattle.rules.specs.Table.{◌!◌}
use Rattle.promises.proofs.Decided.{true_or_false, neither}
use Rattle.rules.specs.Ids.{occurs, repeats, place_of}

pub occurs_at : (id : ℕ) (l : List ℕ) (i : ℕ) → i < length l → l ! i ≡ id → occurs id l ≡ true
unfolding occurs
occurs_at id [] i h e = absurd (omega arith)
occurs_at id (x ∷ l) zero h e = rw (eq-eqb x id e)
occurs_at id (x ∷ l) (suc i) h e = go (eqb x id) (occurs_at id l i (omega arith) e)
  where
    go : (t : Bool) → occurs id l ≡ true → (t || occurs id l) ≡ true
    go true o = refl
    go false o = o

pub absent : (id : ℕ) (l : List ℕ) → occurs id l ≡ false → (i : ℕ) → i < length l → l ! i ≢ id
absent id l o i h e = true_or_false (occurs id l) (occurs_at id l i h e) o

pub not_occurs : (id : ℕ) (l : List ℕ) → ((i : ℕ) → i < length l → l ! i ≢ id) → occurs id l ≡ false
unfolding occurs
not_occurs id [] f = refl
not_occurs id (x ∷ l) f = rw (ne_eqb x id (f 0 (omega arith))) (not_occurs id l (λ i h. f (suc i) (omega arith)))

-- the id stands where it stands first
pub placed : (id : ℕ) (l : List ℕ) → occurs id l ≡ true → (place_of id l < length l) × (l ! place_of id l ≡ id)
unfolding occurs place_of
placed id [] o = true_or_false false o refl
placed id (x ∷ l) o = go (eqb x id) refl o (placed id l)
  where
    go : (t : Bool) → eqb x id ≡ t → (t || occurs id l) ≡ true → (occurs id l ≡ true → (place_of id l < length l) × (l ! place_of id l ≡ id))
        → (cond t 0 (suc (place_of id l)) < length (x ∷ l)) × ((x ∷ l) ! cond t 0 (suc (place_of id l)) ≡ id)
    go true e o rest = (omega arith, eqb-true x id e)
    go false e o rest = let r = rest o in (omega arith, r.1)

-- no id twice
pub apart : (l : List ℕ) → repeats l ≡ false → (i j : ℕ) → i < j → j < length l → l ! i ≢ 0 → l ! i ≢ l ! j
unfolding repeats
apart [] r i j h k ne e = absurd (omega arith)
apart (x ∷ l) r zero zero h k ne e = absurd (omega arith)
apart (x ∷ l) r zero (suc j) h k ne e =
    let parts = neither (not (eqb x 0) && occurs x l) (repeats l) r in
    let o : occurs x l ≡ false = rw (ne_eqb x 0 ne) at parts.0 in
    absent x l o j (omega arith) (sym e)
apart (x ∷ l) r (suc i) zero h k ne e = absurd (omega arith)
apart (x ∷ l) r (suc i) (suc j) h k ne e = apart l (neither (not (eqb x 0) && occurs x l) (repeats l) r).1 i j (omega arith) (omega arith) ne e

pub not_repeats : (l : List ℕ) → ((i j : ℕ) → i < j → j < length l → l ! i ≢ 0 → l ! i ≢ l ! j) → repeats l ≡ false
unfolding repeats
not_repeats [] f = refl
not_repeats (x ∷ l) f = go (eqb x 0) refl (not_repeats l (λ i j h k. f (suc i) (suc j) (omega arith) (omega arith)))
  where
    go : (t : Bool) → eqb x 0 ≡ t → repeats l ≡ false → ((not t && occurs x l) || repeats l) ≡ false
    go true e r = r
    go false e r = rw (not_occurs x l (λ j h q. f 0 (suc j) (omega arith) (omega arith) (eqb-false x 0 e) (sym q))) r
