-- `Output::put_reply` meets its contract: each answer has its line, and room for it.
use Rattle.promises.proofs.Prelude.{◌≡◌, refl, ap, ◌∙◌, List, [], ◌∷◌, ℕ, ◌≤◌, ◌<◌, ◌^◌, arith, length, rules}
use Rattle.std.specs.Prelude.{Ok, Err}
use Rattle.decimals.specs.Decimal.{decimal_in}
use Rattle.lines.specs.Lines.{spaced}
use Rattle.transcript.specs.Printing.{said, ok_word, no_word, printed}
use Rattle.transcript.specs.Replies.{Reply, number_of_line_refusal, reply_answer, line_most, reply_most, Adds, Puts}
use Rattle.transcript.specs.declared.Output.{Output}
use Rattle.transcript.specs.declared.Values.TheVariants as values
use Rattle.transcript.specs.declared.LineRefusal.{LineRefusal}
use Rattle.transcript.specs.declared.LineRefusal.TheVariants as errors
use Rattle.transcript.proofs.Saying.{Small, said_most}
use Rattle.transcript.proofs.Tables.{number_test}
use Rattle.transcript.proofs.Output.put_reply.Goals as goal
use Rattle.transcript.proofs.Output.put_reply.Goals.{In-Ok-Found, In-Ok-One}

-- a line put, said of the reply
puts : {a b : Output} {bs : List ℕ} {x y : Reply} → x ≡ y → bs ≡ printed (reply_answer y) → length bs ≤ reply_most y → Adds bs a b → Puts x a b
puts e f h p = rw e (record { adds = rw f at p; short = omega (arith, p.put.next) })

-- each reply's line is short enough
one : (c : In-Ok-One) → length (said ok_word (c.in-Ok-One.v ∷ [])) ≤ line_most 1
one c = said_most ok_word _ refl (search rules, tt)

found : (c : In-Ok-Found) →
    let f = c.in-Ok-Found.f in
    length (said ok_word (f.seat.0 ∷ f.server ∷ f.draws ∷ f.walks ∷ [])) ≤ line_most 4
found c = said_most ok_word _ refl (search rules, (search rules, (search rules, (search rules, tt))))

no_line : (why : LineRefusal) (n : ℕ) → n < 2 ^ 32 → n ≡ number_of_line_refusal why
    → (length (said no_word (n ∷ [])) ≤ reply_most (Err why)) × (said no_word (n ∷ []) ≡ printed (reply_answer (Err why)))
unfolding decimal_in spaced
no_line (errors.Refused r) n h e =
    let small : Small (n ∷ []) = (h, tt) in
    (said_most no_word (n ∷ []) refl small, rw (e, number_test r))
no_line errors.Unknown n h e = rw e (omega arith, refl)

is_one : (c : In-Ok-One) → c.args.reply ≡ Ok (values.One c.in-Ok-One.v)
is_one c = let e = rw c.in-Ok-One.is at c.in-Ok-One.field-0-is in c.in-Ok-One.is ∙ ap (λ v. Ok v) e

is_found : (c : In-Ok-Found) → c.args.reply ≡ Ok (values.Found c.in-Ok-Found.f)
is_found c = let e = rw c.in-Ok-Found.is at c.in-Ok-Found.field-0-is in c.in-Ok-Found.is ∙ ap (λ v. Ok v) e

pub put_line-requires : goal.put_line-requires
put_line-requires c = let s = (goal.at.put_line-requires c).In-Ok-One in omega (arith, one s, ap reply_most (is_one s))

pub put_line-requires-in-Ok-Found : goal.put_line-requires-in-Ok-Found
put_line-requires-in-Ok-Found c = let s = (goal.at.put_line-requires-in-Ok-Found c).In-Ok-Found in omega (arith, found s, ap reply_most (is_found s))

pub put_line-requires-in-Err : goal.put_line-requires-in-Err
put_line-requires-in-Err c = omega (arith, (no_line c.in-Err.why c.from.result (search rules) c.from.ensures).0, ap reply_most c.in-Err.is)

pub returns-in-Ok-One : goal.returns-in-Ok-One
returns-in-Ok-One c = let s = (goal.at.returns-in-Ok-One c).In-Ok-One in puts (is_one s) refl (one s) c.put_line.ensures

pub returns-in-Ok-Found : goal.returns-in-Ok-Found
returns-in-Ok-Found c = let s = (goal.at.returns-in-Ok-Found c).In-Ok-Found in puts (is_found s) refl (found s) c.put_line-in-Ok-Found.ensures

pub returns-in-Err : goal.returns-in-Err
returns-in-Err c =
    let line = no_line c.in-Err.why c.from.result (search rules) c.from.ensures in
    rw c.in-Err.is (record { adds = rw line.1 at c.put_line-in-Err.ensures; short = omega (arith, line.0, c.put_line-in-Err.ensures.put.next) })
