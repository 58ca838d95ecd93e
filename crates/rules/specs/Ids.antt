-- Document 01, 'Numbers a call can answer': what ID, TWICE and ABSENT ask of a list of ids.
use Rattle.std.specs.Prelude.{Bool, false, not, ◌&&◌, ◌||◌, cond, List, [], ◌∷◌, ℕ, suc, eqb}

-- is the id among them: TWICE of an id that is to be seated, and where it is not, ABSENT of one to be taken out; of 0 in an opening's list, ID
unfoldable pub occurs : ℕ → List ℕ → Bool
occurs id [] = false
occurs id (x ∷ l) = eqb x id || occurs id l

-- does an id occur twice; 0 is no id
unfoldable pub repeats : List ℕ → Bool
unfolding occurs
repeats [] = false
repeats (x ∷ l) = (not (eqb x 0) && occurs x l) || repeats l

-- where the id stands first: the seat of a server
unfoldable pub place_of : ℕ → List ℕ → ℕ
place_of id [] = 0
place_of id (x ∷ l) =
    let more = suc (place_of id l) in
    cond (eqb x id) 0 more
