-- The definitions compute document 01's fifty bytes; and seat 0, which is in use, has no record where the first seat's must stand if the seats descend.
use Rattle.promises.proofs.Prelude.{refl, arith}
use Rattle.rules.specs.Changes.{count, opened}
use Rattle.rules.specs.Examples.{after, h1}
use Rattle.rules.proofs.WorkedExamples.{all_happen}
use Rattle.sound.specs.Removals as removals
use Rattle.fields.specs.declared.Form.TheVariants.{Short}
use Rattle.fields.specs.Form.{form_for}
use Rattle.saved.specs.Record.{record_in}
use Rattle.saved.specs.Reader.{marked_form, bare_from}
use Rattle.saved.specs.Fits.{Good}
use Rattle.saved.specs.Worked.{Worked, descending, Ascending}
use Rattle.saved.proofs.Back.{named, record_good}

pub theorem : Worked
unfolding opened form_for record_in
theorem = (refl, record { table = after 7 h1; reached = record { a = 7; ids = count 7 11; opens = all_happen.0.opens; history = h1; accepted = all_happen.0.accepted; leaves = refl }; is_record = refl })

pub ascending : Ascending
unfolding marked_form bare_from removals.after
ascending r =
    let g = rw (← named r) at (record_good r) in
    let read : Good Short descending 7 4 = rw (← g.head.is_a, ← g.head.is_N) at g in
    omega (arith, (read.body.ins 0 (omega arith) refl).own)
