-- The laws of a form's places: each record ends where the next begins, and a place is the lengths before it.
use Rattle.promises.proofs.Prelude.{◌≡◌, refl, ℕ, ◌≤◌, ◌<◌, ◌+◌, suc, zero, ◌^◌, ◌*◌, arith, length}
use native.Mathlib.Nat.{mul-le-mul_left, mul-le-mul_right}
use Rattle.rules.specs.Table.{most_seats}
use Rattle.fields.specs.declared.Form.{Form}
use Rattle.fields.specs.declared.Form.TheVariants.{Short}
use Rattle.fields.specs.Form.{head_mark, field, form_for, head_length, out_length, in_length, out_at, in_at}

pub head_two : (f : Form) → length (head_mark f) ≡ 2
head_two Short = refl

pub field_most : (f : Form) → field f ≤ 4
field_most Short = omega arith

-- there is one form
pub one : (f : Form) → Short ≡ f
one Short = refl

pub only : (a : ℕ) (f : Form) → form_for a ≡ f
unfolding form_for
only a f = one f

-- a, N and each seat fit in the field
pub seats_fit : (a x : ℕ) → a ≤ most_seats → x ≤ a → x < 256 ^ field (form_for a)
seats_fit a x most h = go (form_for a)
  where
    go : (f : Form) → x < 256 ^ field f
    go Short = omega arith

module _ (f : Form) where
  pub out_is : (i : ℕ) → out_at f i ≡ head_length f + out_length f * i
  out_is zero = omega arith
  out_is (suc i) = omega (arith, out_is i)

  pub in_is : (m j : ℕ) → in_at f m j ≡ out_at f m + in_length f * j
  in_is m zero = omega arith
  in_is m (suc j) = omega (arith, in_is m j)

  -- a record ends where a later one begins, or before it
  pub out_within : (i m : ℕ) → i < m → out_at f i + out_length f ≤ out_at f m
  out_within i m h = omega (arith, out_is i, out_is m, mul-le-mul_left (out_length f) h)

  pub in_within : (m i j : ℕ) → i < j → in_at f m i + in_length f ≤ in_at f m j
  in_within m i j h = omega (arith, in_is m i, in_is m j, mul-le-mul_left (in_length f) h)

  pub out_first : (i : ℕ) → head_length f ≤ out_at f i
  out_first i = omega (arith, out_is i)

  pub in_first : (m j : ℕ) → out_at f m ≤ in_at f m j
  in_first m j = omega (arith, in_is m j)

  pub out_small : (i : ℕ) → out_at f i ≤ 10 + 6 * i
  out_small i = omega (arith, out_is i, field_most f, mul-le-mul_right i (field_most f))

  pub in_small : (m j : ℕ) → in_at f m j ≤ 10 + 6 * m + 10 * j
  in_small m j = omega (arith, in_is m j, out_small m, mul-le-mul_right j (field_most f))
