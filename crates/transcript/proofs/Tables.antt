-- A call on the first of the lent words, told of the table that they are.
use Rattle.promises.proofs.Prelude.{◌≡◌, refl, ap, true, false, Bool, List, [], ◌∷◌, ◌++◌, ℕ, ◌≤◌, ◌<◌, ◌*◌, arith, length, drop, take_at, eqb}
use Rattle.promises.proofs.Prelude.{ne_eqb, le-ltb, lt-ltb}
use Prim.Native.Nat.{max}
use Rattle.rules.specs.Table.{words, most_seats}
use Rattle.rules.specs.Changes.{opened}
use Rattle.rules.specs.Answers.{number_of, Answer, Outcome, outcome, refused_at, done, Occasion, ◌⇒◌, first_that}
use Rattle.rules.specs.declared.Refusal.{Refusal}
use Rattle.rules.specs.declared.Refusal.TheVariants.{Size}
use Rattle.rules.proofs.Numbers.{number_of_positive}
use Rattle.rules.proofs.Occasions.{here, later}
use Rattle.changes.specs.Calls.{open_call}
use Rattle.changes.proofs.Told.{opens, open_occasions, open_size}
use Rattle.lines.specs.Lines.{Command, command_of}
use Rattle.lines.proofs.KnownLines.{least, line_least}
use Rattle.transcript.specs.Transcript.{reopened, respond}
use Rattle.transcript.specs.Replies.{Reply, byte_room, line_room}
use Rattle.transcript.specs.Tables.{table_in, Short, After}
use Rattle.std.specs.Prelude.{Ok, Err, IsErr, IsErrAnd}
use Rattle.transcript.specs.declared.Table.{Table}
use Rattle.transcript.specs.declared.LineRefusal.TheVariants as errors

-- what `?` hands on of a refusal
pub refused_reply : (r : Reply) (why : Refusal) → IsErr r × IsErrAnd r (λ e. e ≡ errors.Refused why) → r ≡ Err (errors.Refused why)
refused_reply (Ok v) why h = let apart : ◌≡◌ {A = Bool} false true = h.0 in cc
refused_reply (Err e) why h = ap (λ e. Err e) h.1

pub short_as : {x : Answer} {most : ℕ} {r q : Reply} → r ≡ q → Short x most q → Short x most r
short_as e h = rw e h

-- such a reply, and the words as they were
pub after_none : (s : Table) (w : List ℕ) {x : Answer} {r : Reply} {o : Outcome} {most : ℕ} → table_in s ≡ w → Short x most r
    → outcome x w ≡ o → After o most r s
after_none s w e h f = rw (← f) (record { reply = h; words = e })

-- and those that the call left
pub after_call : (s : Table) (w t : List ℕ) {x : Answer} {r : Reply} {o : Outcome} {most : ℕ} → length w ≡ s.len → s.words.now ≡ w ++ drop s.len t → Short x most r
    → outcome x w ≡ o → After o most r s
after_call s w t kept all e f = after_none s w (rw (all, take_at w (drop s.len t) s.len kept)) e f

-- a refusal's number is none of an answer that is fine
pub number_test : (r : Refusal) → eqb (number_of r) 0 ≡ false
number_test r = ne_eqb (number_of r) 0 (λ z. omega (arith, number_of_positive r))

-- whatever the occasions are, what is told does not depend on the run, and a refusal leaves the run
first_same : (os : List Occasion) (v w u : List ℕ) (x : Outcome) → reopened v (first_that os (refused_at w) x) ≡ reopened v (first_that os (refused_at u) x)
first_same [] v w u x = refl
first_same ((true ⇒ r) ∷ os) v w u x = rw (number_test r)
first_same ((false ⇒ r) ∷ os) v w u x = first_same os v w u x

first_keeps : (os : List Occasion) (w l : List ℕ) (r : Refusal) (vs x : List ℕ) → refused_at l r ≡ first_that os (refused_at w) (done vs x) → l ≡ w
first_keeps [] w l r vs x e = absurd (omega (arith, number_of_positive r, ap (λ (o : Outcome). o.answer.number) e))
first_keeps ((true ⇒ q) ∷ os) w l r vs x e = ap (λ (o : Outcome). o.after) e
first_keeps ((false ⇒ q) ∷ os) w l r vs x e = first_keeps os w l r vs x e

-- opening does not look at what the run held
module _ (v : List ℕ) (a : ℕ) (ids : List ℕ) where
  pub reopened_same : (w u : List ℕ) → length w ≡ length u → reopened v (open_call w a ids) ≡ reopened v (open_call u a ids)
  unfolding open_call
  reopened_same w u e = rw e (first_same (open_occasions u a ids) v w u (opens u a ids))

  module _ (w l : List ℕ) (r : Refusal) (e : refused_at l r ≡ open_call w a ids) where
    pub refused_keeps : l ≡ w
    unfolding open_call
    refused_keeps = first_keeps (open_occasions w a ids) w l r (length ids ∷ []) (words (opened a ids)) e

    pub refused_reopens : refused_at v r ≡ reopened v (open_call w a ids)
    refused_reopens = rw (← e, number_test r)

pub reopens_many : (v w : List ℕ) (a : ℕ) (ids : List ℕ) → most_seats < a → refused_at v Size ≡ reopened v (open_call w a ids)
reopens_many v w a ids h = refused_reopens v a ids w w Size (open_size w a ids (later (le-ltb a 1 (omega arith)) (here (lt-ltb most_seats a h))))

-- the answer to a line, by its command: a known line is long enough for its answer
pub respond_as : (w line : List ℕ) (cmd : Command) {most : ℕ} {r : Reply} {s : Table} → cmd ≡ command_of line → most ≤ byte_room * max 1 (least cmd)
    → After (respond w cmd) most r s → After (respond w (command_of line)) (line_room line) r s
respond_as w line cmd e h a =
    let long = rw (← e) at (line_least line) in
    rw (← e) (record { reply = record { answer = a.reply.answer; short = omega arith }; words = a.words })
