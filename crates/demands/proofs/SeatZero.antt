-- By the rule before, seat 0's keys went where their first hash sent them; now they go to every seat.
use Rattle.promises.proofs.Prelude.{◌≡◌, refl, ◌∙◌, sym, ap, ℕ, ◌%◌, arith}
use native.Mathlib.Nat.{mod-mod_of_dvd, dvd_of_mod-eq-zero, zero-mod}
use Rattle.splitmix.specs.Generator.{mixed, output}
use Rattle.rules.specs.Changes.{opened}
use Rattle.rules.specs.History.{done}
use Rattle.rules.specs.Ids.{occurs, repeats, place_of}
use Rattle.rules.specs.Keys.{on, found, walk, lookup, array_rule}
use Rattle.rules.proofs.Occasions.{computed_free}
use Rattle.rules.proofs.WorkedExamples.{count_opens, out_next}
use Rattle.find.specs.Find.{find_call}
use Rattle.demands.specs.SeatZero.{Clumped, OnePosition, eight, Eight, AllOnOne, Spread, Stays}

reduced : (x a m : ℕ) → a % m ≡ 0 → x % a % m ≡ x % m
reduced x a m h = mod-mod_of_dvd _ x (dvd_of_mod-eq-zero _ h)

pub clumped : Clumped
clumped k a m d h l = reduced (output 1 k) m d l ∙ sym (reduced (output 1 k) a d h)

pub one_position : OnePosition
one_position k a m h first = sym (reduced (output 1 k) a m h) ∙ ap (λ (x : ℕ). x % m) first ∙ zero-mod m

pub happens : Eight
unfolding opened occurs repeats place_of
happens =
    let leave = out_next refl refl (out_next refl refl (out_next refl refl (out_next refl refl done))) in
    (record { opens = count_opens 8 (computed_free _ refl) (omega arith); accepted = leave }, refl)

-- whoever draws position 0 at seat 0
comes_to_4 : (pick : ℕ → ℕ → ℕ) → pick 0 4 ≡ 0 → array_rule eight.bare pick 0 ≡ found (on 4 2) 1
unfolding opened walk lookup
comes_to_4 pick e = rw e refl

pub all_on_one : AllOnOne
all_on_one k first = let zero = one_position k 8 4 refl first in (zero, comes_to_4 _ zero)

pub spread : Spread
unfolding find_call opened walk lookup mixed output
spread = (refl, refl, refl)

pub stays : Stays
unfolding lookup
stays T k in_use = rw in_use refl
