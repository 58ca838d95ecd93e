-- What an exported function tells, where a number stands for what the call gives.
use Rattle.std.specs.Prelude.{Result, Ok, Err}
use Rattle.std.specs.Result.{MatchResult, IsOkAnd}
use Rattle.promises.proofs.Prelude.{◌≡◌, refl, ap, List, [], ◌∷◌, ℕ}
use Rattle.rules.specs.Answers.{result_answer, Outcome, Results}
use Rattle.rules.specs.declared.Refusal.{Refusal}
use Rattle.steamacorn.specs.Exports.{Told, Changes}

module _ {V : Type 0} (number : V → ℕ) (gives : V → ℕ → Type 0) (is : (v : V) (n : ℕ) → gives v n → n ≡ number v) where
  mapped : (r : Result V Refusal) (m : Result ℕ Refusal) → MatchResult r (λ v. IsOkAnd m (gives v)) (λ e. m ≡ Err e) → result_answer (λ n. n ∷ []) m ≡ result_answer (λ v. number v ∷ []) r
  mapped (Ok v) (Ok n) g = ap (λ (k : ℕ). result_answer (λ n. n ∷ []) (Ok k)) (is v n g)
  mapped (Ok v) (Err e) g = absurd g
  mapped (Err e) m g = rw g refl

  -- the call's result r, mapped to its number, is told
  pub mapped_told : (r : Result V Refusal) (m : Result ℕ Refusal) {x : Outcome} {w before vs : List ℕ} {n : ℕ} → MatchResult r (λ v. IsOkAnd m (gives v)) (λ e. m ≡ Err e)
      → Results (result_answer (λ v. number v ∷ [])) x (r, w) → Told (result_answer (λ n. n ∷ []) m) before (n, vs) → Changes x before (n, vs, w)
  mapped_told r m g h t = rw (← h) (record { told = rw (mapped r m g) at t; leaves = refl })
