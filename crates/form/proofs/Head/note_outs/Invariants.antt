-- `form::Head::note_outs` meets its contract. The loop's invariant: the first i removals fit and are noted.
use Rattle.promises.proofs.Prelude.{◌≡◌}
use Rattle.saved.specs.Fits.{AllOut}
use Rattle.form.specs.Heads.{removals, Noting}
use Rattle.form.proofs.Head.note_outs.Given as goal

abbrev pub invariant-loop-i : goal.invariant-loop-i
invariant-loop-i l =
    let h = l.self in
    (l.i-end ≡ removals h) × AllOut h.form h.bytes.now h.seats (removals h) l.i × Noting h l.i l.gone
