-- The lists of refusals say just what `Asks` does: what an accepted opening or change tells, and what makes one accepted.
use Rattle.promises.proofs.Prelude.{◌≡◌, refl, ap, true, false, Bool, not, List, ℕ, ◌<◌, arith, length, ne_eqb, le-ltb}
use borrow.Author.Tests.{eqb-false, ltb-false}
use Rattle.promises.proofs.Decided.{true_or_false}
use Rattle.rules.specs.Table.{◌!◌, Table, most_seats}
use Rattle.rules.specs.Ids.{occurs}
use Rattle.rules.specs.Answers.{Free, none, more}
use Rattle.rules.specs.History.{open_refusals, out_refusals, seat_refusals, Opens, Takes, Seats}
use Rattle.rules.specs.Asks.{Opening, Taken, Seated}
use Rattle.rules.proofs.Ids.{occurs_at, absent, not_occurs, placed, apart, not_repeats}

pub opening : {a : ℕ} {ids : List ℕ} → Opens a ids → Opening a ids
opening {a} {ids} o = read o.free
  where
    read : Free (open_refusals a ids) → Opening a ids
    read (more least (more most (more one (more fit (more zero (more twice none)))))) =
        let named = absent 0 ids zero in
        record {
          most = ltb-false most_seats a most;
          some = ltb-false (length ids) 1 one;
          fit = ltb-false a (length ids) fit;
          each = λ i h. (named i h, o.each i h);
          apart = λ i j h l. apart ids twice i j h l (named i (omega arith));
        }

pub opens_from : {a : ℕ} {ids : List ℕ} → Opening a ids → Opens a ids
opens_from {a} {ids} o =
    record {
      free =
          more (le-ltb a 1 (omega arith)) (more (le-ltb most_seats a o.most) (more (le-ltb (length ids) 1 o.some) (more (le-ltb a (length ids) o.fit)
          (more (not_occurs 0 ids (λ i h. (o.each i h).0)) (more (not_repeats ids (λ i j h l ne. o.apart i j h l)) none)))));
      each = λ i h. (o.each i h).1;
    }

pub taken : {T : Table} {id b : ℕ} → Takes T id b → Taken T id b
taken {T} {id} {b} t = read t.free
  where
    there : (s : Bool) → not s ≡ false → s ≡ true
    there true e = refl
    there false e = true_or_false true refl e

    read : Free (out_refusals T id) → Taken T id b
    read (more zero (more absent (more last none))) =
        let at = placed id T.S (there (occurs id T.S) absent) in
        record { named = eqb-false id 0 zero; inside = rw (← t.is_place) at.0; has = rw (← t.is_place) at.1; other = eqb-false _ 1 last }

pub takes_from : {T : Table} {id b : ℕ} → Taken T id b → ((x : ℕ) → x < length T.S → T.S ! x ≡ id → x ≡ b) → Takes T id b
takes_from {T} {id} {b} t alone =
    let o = occurs_at id T.S b t.inside t.has in
    let at = placed id T.S o in
    record { free = more (ne_eqb id 0 t.named) (more (ap not o) (more (ne_eqb _ 1 t.other) none)); is_place = alone _ at.0 at.1 }

pub seated : {T : Table} {id b : ℕ} → Seats T id b → Seated T id b
seated {T} {id} {b} t = read t.free
  where
    read : Free (seat_refusals T id) → Seated T id b
    read (more zero (more twice (more full none))) = record { is_id = (eqb-false id 0 zero, t.small); away = absent id T.S twice; room = eqb-false _ _ full; is_last = t.is_last }

pub seats_from : {T : Table} {id b : ℕ} → Seated T id b → Seats T id b
seats_from {T} {id} t =
    record {
      free = more (ne_eqb id 0 t.is_id.0) (more (not_occurs id T.S t.away) (more (ne_eqb _ _ t.room) none));
      small = t.is_id.1;
      is_last = t.is_last;
    }
