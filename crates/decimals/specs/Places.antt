-- What the functions leave, by places in bytes.
use Rattle.std.specs.Prelude.{◌≡◌, List, ℕ, ◌+◌, ◌≤◌, length, Option, Some, None, option_map}
use Rattle.std.specs.Borrow.{Bor}
use Rattle.std.proofs.lemmas.List.Edits.{sets}
use Rattle.decimals.specs.Decimal.{Read, got, bad}

-- an answer, with the bytes themselves for the reference to them
abbrev pub seen : Option (ℕ × Bor (List ℕ)) → Option (ℕ × List ℕ)
seen r = option_map (λ p. (p.0, p.1.now)) r

abbrev pub read_of : Option (ℕ × List ℕ) → Read
read_of (Some (v, rest)) = got v rest
read_of None = bad

-- what is read
abbrev pub Reads : Read → Option (ℕ × List ℕ) → Type 0
Reads x r = read_of r ≡ x

-- bs stand at `at`, and the answer is the place behind them
pub record Put (bs : List ℕ) (at : ℕ) (before : List ℕ) (o : ℕ × List ℕ) : Type 0 where
  pub fits : at + length bs ≤ length before
  pub next : o.0 ≡ at + length bs
  pub bytes : o.1 ≡ sets before at bs
