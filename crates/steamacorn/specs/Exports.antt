-- C-ABI.md, for C: how an exported function tells the outcome of the call that it stands for. It answers the call's number; values go out through the last
-- parameters, and where the number is not 0 these are as they were.
use Rattle.std.specs.Prelude.{◌≡◌, cond, List, ℕ, take, eqb}
use Rattle.rules.specs.Answers.{Answer, Outcome}

-- values go out only where the answer is 0
abbrev pub values : Answer → List ℕ → List ℕ
values x before = cond (eqb x.number 0) x.values before

-- `steamacorn_find` is as it was before request 2/13: it tells all but the walks
abbrev pub without_walks : Answer → Answer
without_walks x = record { number = x.number; values = take 3 x.values }

-- of the number, and the lent values after it
pub record Told (x : Answer) (before : List ℕ) (o : ℕ × List ℕ) : Type 0 where
  pub number : o.0 ≡ x.number
  pub values_out : o.1 ≡ values x before

-- of the number, the lent values, and the lent run or record
pub record Changes (x : Outcome) (before : List ℕ) (o : ℕ × List ℕ × List ℕ) : Type 0 where
  pub told : Told x.answer before (o.0, o.1)
  pub leaves : o.2 ≡ x.after
