-- Document 01's examples hold: the definitions compute what it says, of histories that it accepts.
use Rattle.promises.proofs.Prelude.{◌≡◌, refl, true, false, List, [], ◌∷◌, ◌++◌, ℕ, ◌≤◌, arith}
use mathlib.Core.List.{map}
use Rattle.rules.specs.Table.{Table, most_seats}
use Rattle.rules.specs.Changes.{count, opened, take_out}
use Rattle.rules.specs.Ids.{occurs, repeats, place_of}
use Rattle.rules.specs.Answers.{first_that, Free}
use Rattle.rules.specs.History.{open_refusals, out_refusals, Opens, Change, taking, seating, Accepted, done, then}
use Rattle.rules.specs.Keys.{draw, walk, lookup}
use Rattle.rules.specs.Examples.{Case, examples, h1, h2, h3, h8, AllHappen}
use Rattle.rules.proofs.Lists.{length_count, count_at}
use Rattle.rules.proofs.Occasions.{computed_free}

pub theorem : map (λ (c : Case). c.computed) examples ≡ map (λ (c : Case). c.document) examples
unfolding examples opened draw walk lookup
theorem = refl

pub count_opens : (a : ℕ) → Free (open_refusals a (count a 11)) → a ≤ most_seats → Opens a (count a 11)
count_opens a free most = record { free = free; each = λ i h. omega (arith, length_count a 11, count_at a 11 i (omega (arith, length_count a 11))) }

front : (h k : List Change) (T : Table) → Accepted T (h ++ k) → Accepted T h
front [] k T all = done
front (c ∷ h) k T (then first rest) = then first (front h k _ rest)

-- one more is taken out
pub out_next : {T : Table} {id b : ℕ} {h : List Change} → first_that (out_refusals T id) (λ r. false) true ≡ true → place_of id T.S ≡ b
    → Accepted (take_out T b) h → Accepted T (taking id b ∷ h)
out_next {id = id} {b = b} e at rest = then {c = taking id b} (record { free = computed_free _ e; is_place = at }) rest

eighth : Accepted (opened 7 (count 7 11)) h8
unfolding opened occurs place_of
eighth =
    out_next refl refl (out_next refl refl (out_next refl refl (out_next refl refl (out_next refl refl
    (then {c = seating 99 4} (record { free = computed_free _ refl; small = omega arith; is_last = refl }) done)))))

pub all_happen : AllHappen
unfolding opened occurs repeats place_of
all_happen =
    let seven = count_opens 7 (computed_free _ refl) (omega arith) in (
      record { opens = seven; accepted = front h1 _ _ eighth },
      record { opens = seven; accepted = front h2 _ _ eighth },
      record { opens = seven; accepted = front h3 _ _ eighth },
      record { opens = seven; accepted = eighth },
      record { opens = count_opens 1 (computed_free _ refl) (omega arith); accepted = done },
      record { opens = count_opens 2 (computed_free _ refl) (omega arith); accepted = out_next refl refl done },
      record { opens = count_opens 3 (computed_free _ refl) (omega arith); accepted = out_next refl refl done },
    )
