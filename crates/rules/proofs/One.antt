-- Where answers tell results apart, a promise of answers leaves one outcome.
use Rattle.promises.proofs.Prelude.{◌≡◌, refl, sym, ap, List, [], ◌∷◌, ℕ}
use Rattle.std.specs.Prelude.{Ok, Err}
use Rattle.promises.specs.One.{One}
use Rattle.promises.proofs.One.{one_read}
use Rattle.rules.specs.Answers.{Answer, result_answer, Outcome, outcome, Says, Results}
use Rattle.rules.specs.declared.Seat.{Seat}
use Rattle.rules.proofs.Numbers.{not_fine, refused_injective}

abbrev pub Apart : {R : Type 0} → (R → Answer) → Type 0
Apart {R} answer = (r s : R) → answer r ≡ answer s → r ≡ s

pub one_says : {R : Type 0} {answer : R → Answer} → Apart answer → (x : Answer) → One (Says answer x)
one_says {answer = answer} apart = one_read answer apart

pub one_results : {R : Type 0} {answer : R → Answer} → Apart answer → (x : Outcome) → One (Results answer x)
one_results {R} {answer} apart =
    one_read (λ (o : R × List ℕ). outcome (answer o.0) o.1)
    (λ o p e.
    let r = apart o.0 p.0 (ap (λ (y : Outcome). y.answer) e) in
    let w = ap (λ (y : Outcome). y.after) e in
    λ i. (r i, w i))

-- where the values tell apart what a call gives
pub result_apart : {A : Type 0} (values : A → List ℕ) → ((a b : A) → values a ≡ values b → a ≡ b) → Apart (result_answer values)
result_apart values exact (Ok a) (Ok b) e = ap Ok (exact a b (ap (λ (x : Answer). x.values) e))
result_apart values exact (Ok a) (Err q) e = not_fine q _ (sym e)
result_apart values exact (Err p) (Ok b) e = not_fine p _ e
result_apart values exact (Err p) (Err q) e = ap Err (refused_injective p q e)

-- as where it gives nothing, and where it gives a number
pub nothing_told : Apart (result_answer (λ (u : Unit {0}). []))
nothing_told = result_apart _ (λ u v e. refl)

pub number_told : Apart (result_answer (λ (n : ℕ). n ∷ []))
number_told = result_apart _ (λ m n e. cc)

pub seat_told : Apart (result_answer (λ (b : Seat). b.0 ∷ []))
seat_told = result_apart _ (λ b c e. let n : b.0 ≡ c.0 = cc in λ i. record { 0 = n i })
