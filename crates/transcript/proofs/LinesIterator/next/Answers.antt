-- `Lines::next` meets its contract: the first line, and the others behind its end.
use Rattle.promises.proofs.Prelude.{◌≡◌, sym, ap, ◌∙◌, [], ◌∷◌, ◌+◌, arith, length, drop, take}
use Rattle.std.proofs.lemmas.List.{take_rest}
use Rattle.lines.specs.Lines.{lines_of}
use Rattle.lines.proofs.Listing.{empty, some_left}
use Rattle.transcript.proofs.Turns.{lines_ended, lines_unended}
use Rattle.transcript.proofs.LinesIterator.next.Goals as goal
use Rattle.transcript.proofs.LinesIterator.next.Goals.{In-Some, In_default}

ended : (c : In-Some) →
    let s = c.args.self.now.0.now in
    lines_of s ≡ take c.in-Some.end s ∷ lines_of (drop (c.in-Some.end + 1) s)
ended c = lines_ended _ (some_left _ (sym c.is_empty.ensures ∙ c.if-is_empty.false)) _ c.in-Some.ensures

unended : (c : In_default) →
    let s = c.args.self.now.0.now in
    lines_of s ≡ s ∷ []
unended c = lines_unended _ (some_left _ (sym c.is_empty.ensures ∙ c.if-is_empty.false)) c.in_default.ensures

pub returns-then-is_empty-clause-steps : goal.returns-then-is_empty-clause-steps
unfolding lines_of
returns-then-is_empty-clause-steps c =
    let none = ap lines_of (empty _ (sym c.is_empty.ensures ∙ c.if-is_empty.true)) in
    (none, none)

pub returns-in_default-clause-steps : goal.returns-in_default-clause-steps
unfolding lines_of
returns-in_default-clause-steps c = unended (goal.at.returns-in_default-clause-steps c).In_default

pub returns-in_default-clause-goes : goal.returns-in_default-clause-goes
unfolding lines_of
returns-in_default-clause-goes c =
    record { on = λ _. (tt, tt, omega (arith, ap length (unended (goal.at.returns-in_default-clause-goes c).In_default))); keeps = tt; rests = λ _. tt }

pub returns-clause-steps : goal.returns-clause-steps
returns-clause-steps c = ended (goal.at.returns-clause-steps c).In-Some ∙ simp take_rest

pub returns-clause-goes : goal.returns-clause-goes
returns-clause-goes c =
    record { on = λ _. (tt, tt, simp take_rest (omega (arith, ap length (ended (goal.at.returns-clause-goes c).In-Some)))); keeps = tt; rests = λ _. tt }
