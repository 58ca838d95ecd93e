-- Hollow versions are shut out.
use Rattle.promises.proofs.Prelude.{refl, ◌∙◌, sym, ap, arith, get_or-set_same}
use Rattle.rules.specs.Table.{◌!◌, Table, table_of}
use Rattle.rules.specs.Changes.{opened}
use Rattle.rules.specs.Keys.{walk, lookup}
use Rattle.rules.proofs.Numbers.{not_fine}
use Rattle.sound.proofs.Sound.{sound_table}
use Rattle.rules.proofs.Accepts.{taken, seated}
use Rattle.sound.proofs.Reached.{passes, leaves}
use Rattle.splitmix.specs.Generator.{mixed, output}
use Rattle.changes.proofs.Accepted.{out_changes, seat_changes}
use Rattle.rules.specs.Ids.{occurs, repeats}
use Rattle.changes.specs.Calls.{open_call}
use Rattle.find.specs.Find.{find_call}
use Rattle.demands.specs.Hollow.{RefusesAll, DoesNothing, SeatsElsewhere, SeatsTwice, TakesAnother, KeepsId, ZeroFirst, TwoKeys, TodaysLine, OwnWalks}
use Rattle.demands.proofs.Audit as Audit
use Rattle.demands.proofs.Keys.{every_key}

pub refuses_all : RefusesAll
refuses_all w r s = (λ e. not_fine r _ (sym e ∙ (Audit.theorem w).1 s), λ k e. not_fine r _ (sym e ∙ (every_key w k s).is_fine))

-- N falls, or rises
pub does_nothing : DoesNothing
does_nothing w id b s = (
  λ e. let c = out_changes w w id b s e in absurd (omega (arith, (leaves (passes (sound_table s)) c.accepts).two, ap (λ (T : Table). T.bare.used) c.table)),
  λ small e. let c = seat_changes w w id b s small e in absurd (omega (arith, ap (λ (T : Table). T.bare.used) c.table)),
)

pub seats_elsewhere : SeatsElsewhere
seats_elsewhere w v id b s small ne e = ne (sym (seat_changes w v id b s small e).accepts.is_last)

pub seats_twice : SeatsTwice
seats_twice w v id b x s small below has e = (seated (seat_changes w v id b s small e).accepts).away x (omega (arith, (passes (sound_table s)).ids.size)) has

pub takes_another : TakesAnother
takes_another w v id b s ne e = ne (taken (out_changes w v id b s e).accepts).has

-- the seat holds 0 then, and the id is not 0
pub keeps_id : KeepsId
keeps_id w v id b s has e =
    let c = out_changes w v id b s e in
    let t = taken c.accepts in
    t.named (sym has ∙ ap (λ (T : Table). T.S ! b) c.table ∙ get_or-set_same (table_of w).S b 0 0 t.inside)

pub zero_first : ZeroFirst
unfolding open_call occurs repeats
zero_first = refl

pub two_keys : TwoKeys
unfolding find_call opened walk lookup mixed output
two_keys = (refl, refl)

pub todays_line : TodaysLine
unfolding find_call opened walk lookup mixed output
todays_line = (refl, refl, refl, refl)

pub own_walks : OwnWalks
unfolding find_call opened walk lookup mixed output
own_walks = (refl, refl, refl, refl, refl)
