-- A refusal's number says which refusal it is, and is not the number of an answer that is fine.
use Rattle.promises.proofs.Prelude.{◌≡◌, refl, ◌∙◌, sym, ap, List, [], ◌∷◌, ℕ, ◌<◌, arith, get_or}
use Rattle.rules.specs.Answers.{number_of, Answer, fine, refused}
use Rattle.rules.specs.declared.Refusal.{Refusal}
use Rattle.rules.specs.declared.Refusal.TheVariants.{Size, Count, Id, Twice, Damaged, Full, Absent, Last, Room, Form, Packet}

-- each stands at its number; 0 and 11 are no refusal's
refusals : List Refusal
refusals = Size ∷ Size ∷ Count ∷ Id ∷ Twice ∷ Damaged ∷ Full ∷ Absent ∷ Last ∷ Room ∷ Form ∷ Size ∷ Packet ∷ []

named : (r : Refusal) → (get_or refusals (number_of r) Size ≡ r) × (0 < number_of r)
unfolding refusals
named Size = (refl, omega arith)
named Count = (refl, omega arith)
named Id = (refl, omega arith)
named Twice = (refl, omega arith)
named Damaged = (refl, omega arith)
named Full = (refl, omega arith)
named Absent = (refl, omega arith)
named Last = (refl, omega arith)
named Room = (refl, omega arith)
named Form = (refl, omega arith)
named Packet = (refl, omega arith)

pub number_of_injective : (p q : Refusal) → number_of p ≡ number_of q → p ≡ q
number_of_injective p q h = sym (named p).0 ∙ ap (λ (n : ℕ). get_or refusals n Size) h ∙ (named q).0

pub number_of_positive : (r : Refusal) → 0 < number_of r
number_of_positive r = (named r).1

-- so an answer says whether it refuses, and why
number_same : {x y : Answer} → x ≡ y → x.number ≡ y.number
number_same e = ap (λ (a : Answer). a.number) e

pub not_fine : {P : Type 0} (r : Refusal) (vs : List ℕ) → refused r ≡ fine vs → P
not_fine r vs e = absurd (omega (arith, number_of_positive r, number_same e))

pub refused_injective : (p q : Refusal) → refused p ≡ refused q → p ≡ q
refused_injective p q e = number_of_injective p q (number_same e)
