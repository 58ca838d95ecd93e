-- Document 01, 'Finding a key', by the arrays; 'Numbers a call can answer', Find: 1, 5. SIZE where the words have no legal shape. Else the key's first
-- seat is drawn, and redrawn while it is out of use; the answer is the seat, its server, the draws and the walks, which are how often all redraws together
-- followed K (request 2/13), or DAMAGED where a walk is lost or the seat has no server. That the table is sound is not asked.
use Rattle.std.specs.Prelude.{not, cond, List, [], ◌∷◌, ℕ, eqb, Result}
use Rattle.rules.specs.Table.{◌!◌, table_of, legal}
use Rattle.rules.specs.Keys.{first_of, pick_of, Looked, found, damaged, array_rule}
use Rattle.rules.specs.Answers.{Answer, fine, refused, result_answer, ◌⇒◌, first_that}
use Rattle.rules.specs.declared.Refusal.{Refusal}
use Rattle.rules.specs.declared.Refusal.TheVariants.{Size, Damaged}
use Rattle.find.specs.declared.Found.{Found}

-- the number and the values of a result
abbrev pub lookup_answer : Result Found Refusal → Answer
lookup_answer = result_answer (λ f. f.seat.0 ∷ f.server ∷ f.draws ∷ f.walks ∷ [])

-- what the arrays lead to, with the server in the final seat; DAMAGED where that is 0
abbrev pub served : List ℕ → Looked → Answer
served S damaged = refused Damaged
served S (found f walks) = cond (eqb (S ! f.seat) 0) (refused Damaged) (fine (f.seat ∷ S ! f.seat ∷ f.draws ∷ walks ∷ []))

-- on the words w, for the key k
unfoldable pub find_call : List ℕ → ℕ → Answer
find_call w k =
    let T = table_of w in
    first_that (not (legal w) ⇒ Size ∷ []) refused
    (served T.S (array_rule T.bare (pick_of k) (first_of k T.bare.seats)))
