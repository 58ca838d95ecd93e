-- `changes::take_out` meets its contract: each way out is the first refusal that applies, or there is none.
use Rattle.std.specs.Prelude.{Option, Some, None}
use Rattle.std.proofs.lemmas.Result.{err_from_is_err_and}
use Rattle.promises.proofs.Prelude.{◌≡◌, ◌∙◌, sym, ap, ◌≢◌, not, true, List, [], ◌∷◌, ℕ, arith, cond, eq-eqb, ne_eqb, rules}
use Rattle.rules.specs.Table.{◌!◌, words, table_of}
use Rattle.rules.specs.Changes.{take_out}
use Rattle.rules.specs.Ids.{occurs, place_of}
use Rattle.rules.specs.Answers.{done, none, more}
use Rattle.rules.specs.declared.Refusal.TheVariants.{Absent}
use Rattle.rules.proofs.Occasions.{here, later}
use Rattle.rules.proofs.Options.{none_there, one_there}
use Rattle.sound.proofs.Sound.{sound_legal}
use Rattle.audit.proofs.Told.{audited}
use Rattle.changes.proofs.Ready.{long, tested, place_below, leaving}
use Rattle.changes.proofs.Told.{out_refused, out_first, out_done}
use Rattle.changes.proofs.take_out.Goals as goal
use Rattle.changes.proofs.take_out.Goals.{Else-alone}

-- the id is seated, and where
seated : (id : ℕ) {place : ℕ} {l S : List ℕ} {r : Option ℕ} → l ≡ S → r ≡ cond (occurs id l) (Some (place_of id l)) None → r ≡ Some place → (occurs id S ≡ true) × (place_of id S ≡ place)
seated id e h p = rw e at (one_there _ _ (sym h ∙ p))

-- it is not the last one
other : (c : Else-alone) → c.args.t.now ! 1 ≢ 1
other c z = omega (arith, z, c.if-alone.false)

pub returns-in_err-audit_table : goal.returns-in_err-audit_table
returns-in_err-audit_table c =
    let p = err_from_is_err_and c.from_residual.result c.from_residual.ensures.1 in
    rw (p.1, p.2) (out_refused _ _ c.in_err-audit_table.field-0.0 (rw c.in_err-audit_table.was at c.audit_table.ensures))

pub returns-then-id-eq0 : goal.returns-then-id-eq0
returns-then-id-eq0 c = out_first (audited c.audit_table.ensures c.in_ok-audit_table.was) _ (here (eq-eqb _ 0 c.if-id-eq0.true))

pub bounds-t-0 : goal.bounds-t-0
bounds-t-0 c = search (rules, long _ (audited c.audit_table.ensures c.in_ok-audit_table.was))

pub invariant_of-run : goal.invariant_of-run
invariant_of-run c = record { shape = (sound_legal (audited c.audit_table.ensures c.in_ok-audit_table.was)).shape }

pub returns-in_err-place : goal.returns-in_err-place
returns-in_err-place c =
    let missing : c.find_in.result ≡ None = grind arith in
    let absent = none_there _ _ (ap (λ (S : List ℕ). cond (occurs c.args.id S) (Some (place_of c.args.id S)) None) (sym c.part.ensures.0) ∙ sym c.find_in.ensures ∙ missing) in
    let why : c.in_err-place.field-0.0 ≡ Absent = grind arith in
    let p = err_from_is_err_and c.from_residual-in_err-place.result c.from_residual-in_err-place.ensures.1 in
    rw (p.1, p.2, why) (out_first (audited c.audit_table.ensures c.in_ok-audit_table.was) _ (later (ne_eqb _ 0 c.if-id-eq0.false) (here (ap not absent))))

pub returns-then-alone : goal.returns-then-alone
returns-then-alone c =
    let found : c.find_in.result ≡ Some c.in_ok-place.place = grind arith in
    let there = seated c.args.id c.part.ensures.0 c.find_in.ensures found in
    out_first (audited c.audit_table.ensures c.in_ok-audit_table.was) _
    (later (ne_eqb _ 0 c.if-id-eq0.false) (later (ap not there.0) (here (eq-eqb (c.args.t.now ! 1) 1 (omega (arith, c.if-alone))))))

pub overflow_cast-b : goal.overflow_cast-b
overflow_cast-b c =
    let s = audited c.audit_table.ensures c.in_ok-audit_table.was in
    let found : c.find_in.result ≡ Some c.in_ok-place.place = grind arith in
    let there = seated c.args.id c.part.ensures.0 c.find_in.ensures found in
    omega (arith, there.1, place_below _ s _ there.0, (sound_legal s).shape.most)

pub take_out_seat-requires : goal.take_out_seat-requires
take_out_seat-requires c =
    let s = audited c.audit_table.ensures c.in_ok-audit_table.was in
    let found : c.find_in.result ≡ Some c.in_ok-place.place = grind arith in
    let there = seated c.args.id c.part.ensures.0 c.find_in.ensures found in
    (sound_legal s, tested _ s, rw there.1 at (leaving _ s _ c.if-id-eq0.false there.0 (other (goal.at.take_out_seat-requires c).Else-alone)))

pub returns : goal.returns
returns c =
    let found : c.find_in.result ≡ Some c.in_ok-place.place = grind arith in
    let there = seated c.args.id c.part.ensures.0 c.find_in.ensures found in
    let takes =
    out_done (audited c.audit_table.ensures c.in_ok-audit_table.was) c.args.id
    (more (ne_eqb _ 0 c.if-id-eq0.false) (more (ap not there.0) (more (ne_eqb _ 1 (other (goal.at.returns c).Else-alone)) none))) in
    let back : _ ≡ c.take_out_seat.new.run.words.now = search rules in
    ap (λ (w : List ℕ). done (c.in_ok-place.place ∷ []) w) (back ∙ c.take_out_seat.ensures.words)
    ∙ ap (λ (b : ℕ). done (b ∷ []) (words (take_out (table_of c.args.t.now) b))) (sym there.1)
    ∙ takes
