-- Document 01, 'The line program': numbers are decimal, without sign or leading zeros (0 itself is allowed). How one is printed, and how one is read.
use Rattle.std.specs.Prelude.{Bool, cond, ◌&&◌, List, [], ◌∷◌, ◌++◌, ℕ, zero, suc, ◌+◌, ◌*◌, ◌-◌, ◌/◌, ◌%◌, ltb, leb, eqb}

-- decimal, without leading zeros, in so many digits and one more at the most
unfoldable pub decimal_in : ℕ → ℕ → List ℕ
decimal_in zero n = (48 + n % 10) ∷ []
decimal_in (suc more) n =
    let front = decimal_in more (n / 10) in
    cond (ltb n 10) ((48 + n) ∷ []) (front ++ ((48 + n % 10) ∷ []))

-- twenty digits hold any number below 2^64
abbrev pub decimal : ℕ → List ℕ
decimal n = decimal_in 19 n

-- what is read, and what is left of the bytes
pub data Read : Type 0 where
  got : ℕ → List ℕ → Read
  bad : Read

abbrev pub is_digit : ℕ → Bool
is_digit d = leb 48 d && leb d 57

-- the value with a digit more
abbrev pub more : ℕ → ℕ → ℕ
more v d = v * 10 + (d - 48)

-- d may stand behind the digits of v: it is a digit, v is not 0, and with it the value is at most lim
abbrev pub follows : ℕ → ℕ → ℕ → Bool
follows lim v d = leb 1 v && (is_digit d && leb (more v d) lim)

-- behind the digits of v: digits up to the byte `end`, or to the last byte
unfoldable pub digits : ℕ → ℕ → ℕ → List ℕ → Read
digits end lim v [] = got v []
digits end lim v (d ∷ ds) =
    let rest = digits end lim (more v d) ds in
    cond (eqb d end) (got v (d ∷ ds)) (cond (follows lim v d) rest bad)

-- a number, which is at most lim
unfoldable pub number : ℕ → ℕ → List ℕ → Read
unfolding digits
number end lim [] = bad
number end lim (d ∷ ds) = cond (is_digit d && leb (d - 48) lim) (digits end lim (d - 48) ds) bad
