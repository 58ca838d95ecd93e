-- `record::load` meets its contract: each way out is one of `Loads`.
use Rattle.std.specs.Prelude.{Some, None}
use Rattle.std.proofs.lemmas.Result.{err_from_is_err_and}
use Rattle.promises.proofs.Prelude.{◌≡◌, refl, ◌∙◌, sym, arith, rules}
use Rattle.rules.specs.declared.Refusal.TheVariants.{Form}
use Rattle.fields.proofs.Places.{only}
use Rattle.form.specs.Form.{form_of}
use Rattle.record.proofs.Loads.{load_form, good, load_size, load_done}
use Rattle.record.proofs.load.Goals as goal
use Rattle.record.proofs.load.Goals.{In_ok-seats}

-- the form that was read
form : (c : In_ok-seats) → form_of c.args.s.now ≡ Some c.in_ok-seats.field-0
form c = let e : c.form_of.result ≡ Some c.in_ok-seats.field-0 = grind arith in sym c.form_of.ensures ∙ e

pub returns-in_err-seats : goal.returns-in_err-seats
returns-in_err-seats c =
    let none : c.form_of.result ≡ None = grind arith in
    let why : c.in_err-seats.field-0.0 ≡ Form = grind arith in
    let p = err_from_is_err_and c.from_residual.result c.from_residual.ensures.1 in
    rw (p.1, p.2, why) (load_form _ _ (sym c.form_of.ensures ∙ none))

pub start-requires : goal.start-requires
start-requires c = let g = good _ _ (form (goal.at.start-requires c).In_ok-seats) refl in omega (arith, g.head.fit, g.head.most)

pub returns-then-t-start : goal.returns-then-t-start
returns-then-t-start c = load_size _ _ (form (goal.at.returns-then-t-start c).In_ok-seats) _ (λ e. c.if-t-start.true (e ∙ sym c.start.ensures))

pub invariant_of-record : goal.invariant_of-record
invariant_of-record c = record { good = good _ _ (form (goal.at.invariant_of-record c).In_ok-seats) (only _ _) }

pub overflow_cast-result : goal.overflow_cast-result
overflow_cast-result c = let g = good _ _ (form (goal.at.overflow_cast-result c).In_ok-seats) refl in omega (arith, g.head.fit, g.head.most)

pub returns : goal.returns
returns c =
    let back : _ ≡ c.build.new.run.words.now = search rules in
    load_done _ _ (form (goal.at.returns c).In_ok-seats) _ _ (only _ _) (c.if-t-start.false ∙ c.start.ensures) (back ∙ c.build.ensures.words)
