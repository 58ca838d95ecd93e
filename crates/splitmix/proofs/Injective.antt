-- The generator tells its outputs apart. Each of its steps can be undone, so no two numbers below 2^64 are scrambled alike; and started at one number, it
-- has other outputs at other places below 2^64.
use Rattle.promises.proofs.Prelude.{◌≡◌, refl, ◌∙◌, sym, ap, ap₂, subst, ℕ, zero, suc, ◌<◌, ◌≤◌, ◌+◌, ◌-◌, ◌^◌, ◌*◌, ◌/◌, ◌%◌, arith}
use Rattle.std.proofs.Common.{lt_of_lt_of_le, lt_of_le_of_lt, mod-lt, mod-eq_of_lt, mul_assoc, suc-mul, mul_comm, one-mul, div-add-mod', zero-mul, lit≤, pow_pos, shr_lt}
use native.Mathlib.Nat.{mod-add-mod, mul-add-mod_self_right}
use lib.Arith.{bin_ind, lt-one}
use lib.Bits.{bit_xor, xor_shr, xor_mod, xor_zero_r, xor_lt}
use lib.Pow.{shr_le}
use Rattle.splitmix.specs.Generator.{mixed, scrambled, output}
use Rattle.std.proofs.lemmas.Nat.{mul-mod_first}

-- the numbers of the generator are below it
abbrev P : ℕ
P = 2 ^ 64

-- ---- xor with a number is undone by itself: digit by digit

zero_back : (x : ℕ) → bit_xor (bit_xor x 0) 0 ≡ x
zero_back x = xor_zero_r (bit_xor x 0) ∙ xor_zero_r x

digit_back : (x y : ℕ) → x < 2 → y < 2 → bit_xor (bit_xor x y) y ≡ x
digit_back x zero h l = zero_back x
digit_back zero (suc zero) h l = refl
digit_back (suc zero) (suc zero) h l = refl
digit_back (suc (suc x)) (suc zero) h l = absurd (omega arith)
digit_back x (suc (suc y)) h l = absurd (omega arith)

xor_back : (c x : ℕ) → bit_xor (bit_xor x c) c ≡ x
xor_back =
    bin_ind (λ (c : ℕ). (x : ℕ) → bit_xor (bit_xor x c) c ≡ x) zero_back
    (λ c ih x.
    let high = xor_shr (bit_xor x c) c 1 ∙ ap (λ (n : ℕ). bit_xor n (c / 2)) (xor_shr x c 1) ∙ ih (x / 2) in
    let low = xor_mod (bit_xor x c) c 1 ∙ ap (λ (n : ℕ). bit_xor n (c % 2)) (xor_mod x c 1)
    ∙ digit_back (x % 2) (c % 2) (mod-lt x (omega arith)) (mod-lt c (omega arith)) in
    sym (div-add-mod' (bit_xor (bit_xor x c) c) 2) ∙ ap₂ (λ (q r : ℕ). q * 2 + r) high low ∙ div-add-mod' x 2)

xor_cancel : (c x y : ℕ) → bit_xor x c ≡ bit_xor y c → x ≡ y
xor_cancel c x y e = sym (xor_back c x) ∙ ap (λ (z : ℕ). bit_xor z c) e ∙ xor_back c y

-- ---- z xor z / 2^s, of numbers with n blocks of s digits: the blocks above the lowest are z / 2^s in the same way

module _ (s : ℕ) where
  abbrev shifted : ℕ → ℕ
  shifted z = bit_xor z (z / 2 ^ s)

  above : (n z : ℕ) → z < 2 ^ (suc n * s) → z / 2 ^ s < 2 ^ (n * s)
  above n z h = shr_lt (n * s) s (subst (λ (m : ℕ). z < 2 ^ m) (omega (arith, suc-mul n s)) h)

  shift_tells : (n x y : ℕ) → x < 2 ^ (n * s) → y < 2 ^ (n * s) → shifted x ≡ shifted y → x ≡ y
  shift_tells zero x y h l e = lt-one (rw zero-mul at h) ∙ sym (lt-one (rw zero-mul at l))
  shift_tells (suc n) x y h l e =
      let same : x / 2 ^ s ≡ y / 2 ^ s = shift_tells n (x / 2 ^ s) (y / 2 ^ s) (above n x h) (above n y l)
      (sym (xor_shr x (x / 2 ^ s) s) ∙ ap (λ (z : ℕ). z / 2 ^ s) e ∙ xor_shr y (y / 2 ^ s) s) in
      xor_cancel (x / 2 ^ s) x y (e ∙ ap (bit_xor y) (sym same))

-- ---- a product modulo 2^64 with a number that has an inverse

product_back : (c d z : ℕ) → c * d % P ≡ 1 → z < P → z * c % P * d % P ≡ z
product_back c d z inverse h =
    mul-mod_first (z * c) d P
    ∙ ap (λ (n : ℕ). n % P) (mul_assoc z c d ∙ mul_comm z (c * d))
    ∙ sym (mul-mod_first (c * d) z P)
    ∙ ap (λ (n : ℕ). n * z % P) inverse
    ∙ ap (λ (n : ℕ). n % P) (one-mul z)
    ∙ mod-eq_of_lt h

product_tells : (c d x y : ℕ) → c * d % P ≡ 1 → x < P → y < P → x * c % P ≡ y * c % P → x ≡ y
product_tells c d x y inverse h l e = sym (product_back c d x inverse h) ∙ ap (λ (n : ℕ). n * d % P) e ∙ product_back c d y inverse l

-- ---- the steps

below : (s z : ℕ) → z < P → shifted s z < P
below s z h = xor_lt 64 z (z / 2 ^ s) h (lt_of_le_of_lt (shr_le z s) h)

-- three blocks of s digits hold 64
three_tell : (s x y : ℕ) → P ≤ 2 ^ (3 * s) → x < P → y < P → shifted s x ≡ shifted s y → x ≡ y
three_tell s x y most h l = shift_tells s 3 x y (lt_of_lt_of_le h most) (lt_of_lt_of_le l most)

mixed_tells : (s c d x y : ℕ) → P ≤ 2 ^ (3 * s) → c * d % P ≡ 1 → x < P → y < P → mixed s c x ≡ mixed s c y → x ≡ y
unfolding mixed
mixed_tells s c d x y most inverse h l e = three_tell s x y most h l (product_tells c d _ _ inverse (below s x h) (below s y l) e)

mixed_below : (s c z : ℕ) → mixed s c z < P
unfolding mixed
mixed_below s c z = mod-lt _ (pow_pos 64)

scrambled_tells : (x y : ℕ) → x < P → y < P → scrambled x ≡ scrambled y → x ≡ y
scrambled_tells x y h l e =
    mixed_tells 30 0xbf58476d1ce4e5b9 0x96de1b173f119089 x y (lit≤ tt) refl h l
    (mixed_tells 27 0x94d049bb133111eb 0x319642b2d24d8ec3 _ _ (lit≤ tt) refl (mixed_below 30 _ _) (mixed_below 30 _ _)
    (three_tell 31 _ _ (lit≤ tt) (mixed_below 27 _ _) (mixed_below 27 _ _) e))

-- ---- outputs of one start

start_back : (k x : ℕ) → ((k + x) % P + (P - k % P)) % P ≡ x % P
start_back k x =
    mod-add-mod (k + x) P (P - k % P)
    ∙ ap (λ (n : ℕ). n % P) (omega (arith, div-add-mod' k P, mod-lt k (pow_pos 64)))
    ∙ mul-add-mod_self_right (k / P + 1) P x

start_tells : (k x y : ℕ) → (k + x) % P ≡ (k + y) % P → x % P ≡ y % P
start_tells k x y e = sym (start_back k x) ∙ ap (λ (n : ℕ). (n + (P - k % P)) % P) e ∙ start_back k y

pub output_tells : (k m n : ℕ) → output m k ≡ output n k → m < P → n < P → m ≡ n
unfolding output
output_tells k m n e h l =
    product_tells 0x9e3779b97f4a7c15 0xf1de83e19937733d m n refl h l
    (start_tells k _ _ (scrambled_tells _ _ (mod-lt _ (pow_pos 64)) (mod-lt _ (pow_pos 64)) e))
