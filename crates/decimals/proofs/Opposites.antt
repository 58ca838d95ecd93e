-- How a number is printed, and that printing and reading are opposites.
use Rattle.promises.proofs.Prelude.{◌≡◌, refl, inl, inr, ◌⊎◌, false, ◌&&◌, List, [], ◌∷◌, ◌++◌, append_assoc, ℕ, ◌-◌, ◌≤◌, ◌<◌, ◌+◌, suc, zero, ◌^◌, ◌/◌, ◌%◌}
use Rattle.promises.proofs.Prelude.{arith, ℕ_discrete, dec_lt, length, length-append, ltb, ne_eqb, eq-eqb, le-ltb, lt-ltb, le-leb}
use native.Mathlib.Nat.{pow-succ'}
use lib.Seq.{append_snoc}
use lib.Dec.{leb}
use borrow.Author.Tests.{leb-true}
use Rattle.promises.proofs.Decided.{true_or_false, bool_cases, both}
use Rattle.decimals.specs.Decimal.{decimal_in, decimal, Read, got, bad, is_digit, more, follows, digits, number}
use Rattle.decimals.specs.Opposites.{Parted, Prints, Opposites}
use Rattle.decimals.proofs.Digits.{digit_true, true_digit, follows_true}

-- a printed number, a digit at a time

pub decimal_digit : (k : ℕ) → k < 10 → decimal k ≡ (48 + k) ∷ []
unfolding decimal_in
decimal_digit k h = rw (lt-ltb k 10 h)

-- a place more holds no more of a number that fits
fits_in : (more n : ℕ) → n < 10 ^ suc more → decimal_in (suc more) n ≡ decimal_in more n
unfolding decimal_in
fits_in zero n h = let e : n % 10 ≡ n = omega arith in rw (lt-ltb n 10 (omega arith), e)
fits_in (suc more) n h = rw (fits_in more (n / 10) (omega (arith, pow-succ' 10 (suc more))))

-- the last digit, behind the others
pub decimal_last : (n : ℕ) → 9 < n → n < 10 ^ 20 → decimal n ≡ decimal (n / 10) ++ ((48 + n % 10) ∷ [])
unfolding decimal_in
decimal_last n p h = rw (le-ltb n 10 (omega arith), fits_in 18 (n / 10) (omega arith))

-- how many digits

pub decimal_length : (most k n : ℕ) → n < 10 ^ suc k → length (decimal_in most n) ≤ suc k
unfolding decimal_in
decimal_length zero k n l = omega arith
decimal_length (suc most) zero n l = rw (lt-ltb n 10 l) (omega arith)
decimal_length (suc most) (suc k) n l =
    let others = decimal_length most k (n / 10) (omega (arith, pow-succ' 10 (suc k))) in
    elim (bool_cases (ltb n 10)) [ inl t ↦ rw t (omega arith) | inr t ↦ rw t (simp length-append (omega arith)) ]

pub decimal_some : (most n : ℕ) → 0 < length (decimal_in most n)
unfolding decimal_in
decimal_some zero n = omega arith
decimal_some (suc most) n = elim (bool_cases (ltb n 10)) [ inl t ↦ rw t (omega arith) | inr t ↦ rw t (simp length-append (omega arith)) ]

-- a number that is read

pub not_got : {P : Type 0} {x : ℕ} {rest : List ℕ} → bad ≡ got x rest → P
not_got e = let z : ◌≡◌ {A = ℕ} 0 1 = cc in absurd (omega arith)

pub read_cases : (r : Read) → (r ≡ bad) ⊎ ((v : ℕ) × (rest : List ℕ) × (r ≡ got v rest))
read_cases bad = inl refl
read_cases (got v rest) = inr (v, rest, refl)

module _ (end lim : ℕ) where
  -- what is printed is read

  number_digit : (k : ℕ) (tail : List ℕ) → k < 10 → k ≤ lim → number end lim ((48 + k) ∷ tail) ≡ digits end lim k tail
  unfolding number
  number_digit k tail h l = let e : 48 + k - 48 ≡ k = omega arith in rw (true_digit k h, e, le-leb k lim l)

  module _ (other : is_digit end ≡ false) where
    digits_digit : (v k : ℕ) (tail : List ℕ) → 0 < v → k < 10 → more v (48 + k) ≤ lim
        → digits end lim v ((48 + k) ∷ tail) ≡ digits end lim (more v (48 + k)) tail
    unfolding digits
    digits_digit v k tail p h l =
        let d = true_digit k h in
        rw (ne_eqb (48 + k) end (λ e. true_or_false (is_digit end) (rw e at d) other), le-leb 1 v p, d, le-leb (more v (48 + k)) lim l)

    number_decimal : (most n : ℕ) (tail : List ℕ) → n < 10 ^ suc most → n ≤ lim → number end lim (decimal_in most n ++ tail) ≡ digits end lim n tail
    unfolding decimal_in
    number_decimal zero n tail h l = let e : n % 10 ≡ n = omega arith in rw e (number_digit n tail (omega arith) l)
    number_decimal (suc most) n tail h l = elim (dec_lt n 10) [
      | yes s ↦ rw (lt-ltb n 10 s) (number_digit n tail s l)
      | no s ↦
          let others = number_decimal most (n / 10) ((48 + n % 10) ∷ tail) (omega (arith, pow-succ' 10 (suc most))) (omega arith) in
          let last = digits_digit (n / 10) (n % 10) tail (omega arith) (omega arith) (omega arith) in
          let e : more (n / 10) (48 + n % 10) ≡ n = omega arith in
          rw (le-ltb n 10 (omega arith), append_assoc, others, last, e)
    ]

  digits_parted : (v : ℕ) (rest : List ℕ) → Parted end rest → digits end lim v rest ≡ got v rest
  unfolding digits
  digits_parted v [] p = refl
  digits_parted v (b ∷ bs) p = rw (eq-eqb b end p)

  -- what is read is printed

  module _ (x : ℕ) (rest : List ℕ) where
    stops : (v : ℕ) (bs : List ℕ) → v ≤ lim → Parted end bs → got v bs ≡ got x rest → Prints end lim (decimal v ++ bs) x rest
    stops v bs l p e =
        let n : v ≡ x = cc in
        let r : bs ≡ rest = cc in
        record { most = omega arith; text = cc; parted = rw r at p }

    module _ (b : lim < 10 ^ 20) where
      digits_prints : (v : ℕ) (bs : List ℕ) → v ≤ lim → digits end lim v bs ≡ got x rest → Prints end lim (decimal v ++ bs) x rest
      unfolding digits
      digits_prints v [] l e = stops v [] l tt e
      digits_prints v (d ∷ ds) l e = elim (ℕ_discrete d end) [
        | yes s ↦ stops v (d ∷ ds) l s (rw (eq-eqb d end s) at e)
        | no s ↦ elim (bool_cases (follows lim v d)) [
          | inr t ↦ not_got (rw (ne_eqb d end s, t) at e)
          | inl t ↦
              let f = follows_true lim v d t in
              let q : more v d / 10 ≡ v = omega arith in
              let m : 48 + more v d % 10 ≡ d = omega arith in
              let last = rw (q, m) at (decimal_last (more v d) (omega arith) (omega arith)) in
              rw (← append_snoc (decimal v) d ds, ← last) (digits_prints (more v d) ds f.3 (rw (ne_eqb d end s, t) at e))
        ]
      ]

      number_prints : (s : List ℕ) → number end lim s ≡ got x rest → Prints end lim s x rest
      unfolding number
      number_prints [] e = not_got e
      number_prints (d ∷ ds) e = elim (bool_cases (is_digit d && leb (d - 48) lim)) [
        | inr t ↦ not_got (rw t at e)
        | inl t ↦
            let f = both (is_digit d) (leb (d - 48) lim) t in
            let h = digit_true d f.0 in
            let k : 48 + (d - 48) ≡ d = omega arith in
            let one = rw k at (decimal_digit (d - 48) (omega arith)) in
            rw one at (digits_prints (d - 48) ds (leb-true (d - 48) lim f.1) (rw t at e))
      ]

pub theorem : Opposites
theorem end lim v s rest other b = (
  λ p. rw (p.text, number_decimal end lim other 19 v rest (omega arith) p.most) (digits_parted end lim v rest p.parted),
  number_prints end lim v rest (omega arith) s,
)
