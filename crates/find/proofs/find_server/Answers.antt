-- `find::find_server` meets its contract: A and K are lent as the parts that the array rule reads, and its tests are those of `find` in their order.
use Rattle.std.specs.Prelude.{Option, Some, None}
use Rattle.std.proofs.lemmas.Result.{err_from_is_err_and}
use Rattle.promises.proofs.Prelude.{◌≡◌, List, ℕ, arith, ne_eqb}
use native.Mathlib.Nat.{mod-lt}
use Rattle.splitmix.specs.Generator.{output}
use Rattle.rules.specs.Table.{part, table_for}
use Rattle.rules.specs.Keys.{first_of}
use Rattle.rules.specs.declared.Refusal.TheVariants.{Size, Damaged}
use Rattle.parts.specs.Shape.{size_of}
use Rattle.parts.proofs.Sized.{illegal, told_seats}
use Rattle.find.specs.declared.Drawn.{Drawn}
use Rattle.find.specs.Steps.{looked_of, Looks}
use Rattle.find.specs.Find.{served, find_call}
use Rattle.find.proofs.find_server.Goals as goal

-- what the draws lead to
led : (w : List ℕ) {A K : List ℕ} {a key first : ℕ} {r : Option Drawn} → size_of w ≡ Some a → A ≡ part a 0 w → K ≡ part a 1 w → first ≡ first_of key a → Looks A K key first r
    → served (table_for a w).S (looked_of r) ≡ find_call w key
unfolding find_call
led w {a = a} size isA isK is_first l = let t = told_seats w a size in rw (t.0, t.1.first, l.rule, isA, isK, is_first)

pub returns-in_err-seats : goal.returns-in_err-seats
unfolding find_call
returns-in_err-seats c =
    let none : size_of c.args.t.now ≡ None = grind arith in
    let why : c.in_err-seats.field-0.0 ≡ Size = grind arith in
    let p = err_from_is_err_and c.from_residual.result c.from_residual.ensures.1 in
    rw (p.1, p.2, why, illegal _ none)

pub overflow_cast-seats : goal.overflow_cast-seats
overflow_cast-seats c =
    let size : size_of c.args.t.now ≡ Some c.in_ok-seats.seats = grind arith in
    let t = (told_seats _ _ size).1 in omega arith

pub first_seat-first-requires : goal.first_seat-first-requires
first_seat-first-requires c =
    let size : size_of c.args.t.now ≡ Some c.in_ok-seats.seats = grind arith in
    (told_seats _ _ size).1.some

pub invariant_of-run : goal.invariant_of-run
invariant_of-run c =
    let size : size_of c.args.t.now ≡ Some c.in_ok-seats.seats = grind arith in
    record { shape = (told_seats _ _ size).1.shape }

pub look_up-requires : goal.look_up-requires
look_up-requires c =
    let size : size_of c.args.t.now ≡ Some c.in_ok-seats.seats = grind arith in
    let t = (told_seats _ _ size).1 in
    omega (arith, mod-lt (output 1 c.args.key) t.some)

pub returns-in_err-drawn : goal.returns-in_err-drawn
returns-in_err-drawn c =
    let size : size_of c.args.t.now ≡ Some c.in_ok-seats.seats = grind arith in
    let none : c.look_up.result ≡ None = grind arith in
    let why : c.in_err-drawn.field-0.0 ≡ Damaged = grind arith in
    let p = err_from_is_err_and c.from_residual-in_err-drawn.result c.from_residual-in_err-drawn.ensures.1 in
    rw (p.1, p.2, why) (rw none at (led c.args.t.now size c.part.ensures.0 c.part-2.ensures.0 c.first_seat-first.ensures c.look_up.ensures))

pub returns-then-vacant : goal.returns-then-vacant
returns-then-vacant c =
    let size : size_of c.args.t.now ≡ Some c.in_ok-seats.seats = grind arith in
    let one : c.look_up.result ≡ Some c.in_ok-drawn.drawn = grind arith in
    rw (one, ← c.get-server.ensures, c.if-vacant.true) at (led c.args.t.now size c.part.ensures.0 c.part-2.ensures.0 c.first_seat-first.ensures c.look_up.ensures)

pub returns : goal.returns
returns c =
    let size : size_of c.args.t.now ≡ Some c.in_ok-seats.seats = grind arith in
    let one : c.look_up.result ≡ Some c.in_ok-drawn.drawn = grind arith in
    rw (one, ← c.get-server.ensures, ne_eqb _ _ c.if-vacant.false) at (led c.args.t.now size c.part.ensures.0 c.part-2.ensures.0 c.first_seat-first.ensures c.look_up.ensures)
