-- `changes::seat_server` meets its contract: each way out is the first refusal that applies, or there is none.
use Rattle.std.proofs.lemmas.Result.{err_from_is_err_and}
use Rattle.promises.proofs.Prelude.{◌≡◌, ◌∙◌, sym, ap, ap₂, List, [], ◌∷◌, ℕ, arith, eq-eqb, ne_eqb, rules}
use Rattle.rules.specs.Ids.{occurs}
use Rattle.rules.specs.Answers.{done, none, more}
use Rattle.rules.proofs.Occasions.{here, later}
use Rattle.sound.proofs.Sound.{sound_legal}
use Rattle.audit.proofs.Told.{audited}
use Rattle.changes.proofs.Ready.{long, tested, roomy}
use Rattle.changes.proofs.Told.{seat_refused, seat_first, seat_done}
use Rattle.changes.proofs.seat_server.Goals as goal

pub returns-in_err-audit_table : goal.returns-in_err-audit_table
returns-in_err-audit_table c =
    let p = err_from_is_err_and c.from_residual.result c.from_residual.ensures.1 in
    rw (p.1, p.2) (seat_refused _ _ c.in_err-audit_table.field-0.0 (rw c.in_err-audit_table.was at c.audit_table.ensures))

pub returns-then-id-eq0 : goal.returns-then-id-eq0
returns-then-id-eq0 c = seat_first (audited c.audit_table.ensures c.in_ok-audit_table.was) _ (here (eq-eqb _ 0 c.if-id-eq0.true))

pub bounds-t-0 : goal.bounds-t-0
bounds-t-0 c = search (rules, long _ (audited c.audit_table.ensures c.in_ok-audit_table.was))

pub invariant_of-run : goal.invariant_of-run
invariant_of-run c = record { shape = (sound_legal (audited c.audit_table.ensures c.in_ok-audit_table.was)).shape }

pub returns-then-occurs_in : goal.returns-then-occurs_in
returns-then-occurs_in c =
    seat_first (audited c.audit_table.ensures c.in_ok-audit_table.was) _
    (later (ne_eqb _ 0 c.if-id-eq0.false) (here (sym (c.occurs_in.ensures ∙ ap (occurs _) c.part.ensures.0) ∙ c.if-occurs_in.true)))

pub returns-then-full : goal.returns-then-full
returns-then-full c =
    seat_first (audited c.audit_table.ensures c.in_ok-audit_table.was) _
    (later (ne_eqb _ 0 c.if-id-eq0.false) (later (sym (c.occurs_in.ensures ∙ ap (occurs _) c.part.ensures.0) ∙ c.if-occurs_in.false) (here (eq-eqb _ _ (omega (arith, c.if-full.true))))))

pub seat_last-requires : goal.seat_last-requires
seat_last-requires c =
    let s = audited c.audit_table.ensures c.in_ok-audit_table.was in
    (sound_legal s, tested _ s, roomy _ s (λ e. omega (arith, e, c.if-full.false)))

pub returns : goal.returns
returns c =
    let seats =
    seat_done (audited c.audit_table.ensures c.in_ok-audit_table.was) c.args.id
    (more (ne_eqb _ 0 c.if-id-eq0.false) (more (sym (c.occurs_in.ensures ∙ ap (occurs _) c.part.ensures.0) ∙ c.if-occurs_in.false) (more (ne_eqb _ _ (λ e. omega (arith, e, c.if-full.false))) none))) in
    let o = c.seat_last.ensures.seated in
    let back : _ ≡ c.seat_last.new.run.words.now = search rules in
    ap₂ (λ (b : ℕ) (w : List ℕ). done (b ∷ []) w) o.seat (back ∙ o.run) ∙ seats
