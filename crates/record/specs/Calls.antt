-- Document 01, 'Numbers a call can answer': saving and loading. Each gives the answer and the lent bytes or words after it, on all inputs.
use Rattle.std.specs.Prelude.{not, Result, List, [], ◌∷◌, ◌++◌, ℕ, length, drop, ltb, eqb}
use Rattle.rules.specs.Table.{Table, words, run_length, table_of}
use Rattle.rules.specs.Answers.{Answer, result_answer, Outcome, refused_at, done, ◌⇒◌, first_that}
use Rattle.rules.specs.declared.Refusal.{Refusal}
use Rattle.rules.specs.declared.Refusal.TheVariants.{Size, Room, Form}
use Rattle.audit.specs.Audit.{audit_refusals}
use Rattle.saved.specs.Record.{record_of, IsRecord}
use Rattle.saved.proofs.Back.{record?}

-- the number and the values of each answer
abbrev pub saved_answer : Result ℕ Refusal → Answer
saved_answer = result_answer (λ bytes. bytes ∷ [])

abbrev pub loaded_answer : Result ℕ Refusal → Answer
loaded_answer = result_answer (λ used. used ∷ [])

-- Saving the run w into the bytes out: only the record's bytes are written
unfoldable pub save_call : List ℕ → List ℕ → Outcome
save_call w out =
    let s = record_of (table_of w) in
    first_that (audit_refusals w ++ (ltb (length out) (length s) ⇒ Room ∷ [])) (refused_at out)
    (done (length s ∷ []) (s ++ drop (length s) out))

-- Loading a table into the run w takes a from the table
abbrev pub load_table : List ℕ → Table → Outcome
load_table w T =
    first_that (not (eqb (length w) (run_length T.bare.seats)) ⇒ Size ∷ []) (refused_at w)
    (done (T.bare.used ∷ []) (words T))

-- Loading the bytes s; `record?` is a proof that s is a record of a sound table, or of the contrary
abbrev pub load_by : List ℕ → {s : List ℕ} → Dec (IsRecord s) → Outcome
load_by w (no n) = refused_at w Form
load_by w (yes r) = load_table w r.table

unfoldable pub load_call : List ℕ → List ℕ → Outcome
load_call w s = load_by w (record? s)
