-- `audit::audit_table` meets its contract: it makes the pass of `Exact`, which a run of legal shape passes if and only if it is sound.
use Rattle.std.specs.Prelude.{Some, None}
use Rattle.std.proofs.lemmas.Result.{err_from_is_err_and}
use Rattle.promises.proofs.Prelude.{◌≡◌, ◌∙◌, sym, ap, arith, rules}
use Rattle.promises.proofs.Decided.{decides_true, decides_false}
use Rattle.rules.specs.Ids.{repeats}
use Rattle.rules.specs.declared.Refusal.TheVariants.{Size}
use Rattle.parts.specs.Shape.{size_of}
use Rattle.parts.proofs.Sized.{illegal}
use Rattle.audit.proofs.Answers.{audit_size, known, head_fails, one_fails, id_twice, all_well}
use Rattle.audit.proofs.audit_table.Goals as goal

pub returns-in_err-seats : goal.returns-in_err-seats
returns-in_err-seats c =
    let none : size_of c.args.t.now ≡ None = grind arith in
    let why : c.in_err-seats.field-0.0 ≡ Size = grind arith in
    let p = err_from_is_err_and c.from_residual.result c.from_residual.ensures.1 in
    rw (p.1, p.2, why) (audit_size _ (illegal _ none))

pub bounds-t-1 : goal.bounds-t-1
bounds-t-1 c =
    let size : size_of c.args.t.now ≡ Some c.in_ok-seats.seats = grind arith in
    let k = known _ _ size in
    search (rules, k.some, k.shape.size)

pub returns-then-not-contains : goal.returns-then-not-contains
returns-then-not-contains c =
    let size : size_of c.args.t.now ≡ Some c.in_ok-seats.seats = grind arith in
    head_fails _ _ size (λ h. search (rules, h.some, h.most))

pub invariant_of-run : goal.invariant_of-run
invariant_of-run c =
    let size : size_of c.args.t.now ≡ Some c.in_ok-seats.seats = grind arith in
    record { shape = (known _ _ size).shape }

pub returns-then-not-all_pass : goal.returns-then-not-all_pass
returns-then-not-all_pass c =
    let size : size_of c.args.t.now ≡ Some c.in_ok-seats.seats = grind arith in
    one_fails _ _ size (decides_false _ c.if-not-all_pass.true c.all_pass.ensures)

pub returns-then-repeats_in : goal.returns-then-repeats_in
returns-then-repeats_in c =
    let size : size_of c.args.t.now ≡ Some c.in_ok-seats.seats = grind arith in
    id_twice _ _ size (sym (c.repeats_in.ensures ∙ ap repeats c.part.ensures.0) ∙ c.if-repeats_in.true)

pub returns : goal.returns
returns c =
    let size : size_of c.args.t.now ≡ Some c.in_ok-seats.seats = grind arith in
    all_well _ _ size (λ i. omega (arith, c.type_inv.t i)) (record { some = search rules; most = search rules }) (decides_true _ c.if-not-all_pass.false c.all_pass.ensures)
    (sym (c.repeats_in.ensures ∙ ap repeats c.part.ensures.0) ∙ c.if-repeats_in.false)
