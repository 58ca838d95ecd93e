-- Document 01, 'Numbers a call can answer': opening, seating and taking out. Each gives the answer and the run after it, on all inputs.
use Rattle.std.specs.Prelude.{not, List, [], ◌∷◌, ◌++◌, ℕ, length, eqb, Result}
use Rattle.rules.specs.Table.{words, run_length, table_of}
use Rattle.rules.specs.Changes.{opened, last_out, take_out, seat_id}
use Rattle.rules.specs.Ids.{place_of}
use Rattle.rules.specs.Answers.{Answer, result_answer, Outcome, refused_at, done, ◌⇒◌, first_that}
use Rattle.rules.specs.History.{open_refusals, out_refusals, seat_refusals}
use Rattle.rules.specs.declared.Seat.{Seat}
use Rattle.rules.specs.declared.Refusal.{Refusal}
use Rattle.rules.specs.declared.Refusal.TheVariants.{Size}
use Rattle.audit.specs.Audit.{audit_refusals}

-- the number and the values of each answer
abbrev pub opened_answer : Result ℕ Refusal → Answer
opened_answer = result_answer (λ n. n ∷ [])

abbrev pub changed_answer : Result Seat Refusal → Answer
changed_answer = result_answer (λ b. b.0 ∷ [])

-- Opening takes a from its argument and ignores what the run w held: SIZE where it is not of a's length, and then what refuses the opening
unfoldable pub open_call : List ℕ → ℕ → List ℕ → Outcome
open_call w a ids =
    first_that (not (eqb (length w) (run_length a)) ⇒ Size ∷ open_refusals a ids) (refused_at w)
    (done (length ids ∷ []) (words (opened a ids)))

unfoldable pub seat_call : List ℕ → ℕ → Outcome
seat_call w id =
    let T = table_of w in
    first_that (audit_refusals w ++ seat_refusals T id) (refused_at w)
    (done (last_out T.bare ∷ []) (words (seat_id T id)))

unfoldable pub out_call : List ℕ → ℕ → Outcome
out_call w id =
    let T = table_of w in
    let b = place_of id T.S in
    first_that (audit_refusals w ++ out_refusals T id) (refused_at w)
    (done (b ∷ []) (words (take_out T b)))
