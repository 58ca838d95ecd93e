-- What stands where in a list of bytes; a mark, which is two bytes; and a number of any width, written and read back.
-- A number's last byte is its remainder by 256, and the bytes before it are those of the quotient.
use Rattle.promises.proofs.Prelude.{◌≡◌, refl, ◌∙◌, ap, List, [], ◌∷◌, ◌++◌, append-nil, append_assoc, ℕ, ◌≤◌, ◌<◌, ◌+◌, suc, zero, ◌^◌, ◌*◌, ◌/◌, ◌%◌}
use Rattle.promises.proofs.Prelude.{◌-◌, add-zero, add-one, arith, length, drop}
use borrow.Rule.Slice.PartMut.{put_mid}
use Rattle.promises.proofs.Prelude.{set, length-append, take, sets, drop-drop, get_or-take}
use native.Mathlib.Nat.{add_assoc, add-suc, mul_assoc, pow-suc}
use lib.Seq.{drop-cons, sets-eq, take-take, take-add, take-append_seam, drop-append_seam, get_or-drop, get_or_at, take-length, set_comm}
use Rattle.rules.specs.Table.{◌!◌}
use Rattle.fields.specs.Numbers.{bytes, number_at, Stands}

module _ (s : List ℕ) (at : ℕ) (x y : List ℕ) where
  -- the first of two that stand together, the second, and both
  pub stands_left : Stands s at (x ++ y) → Stands s at x
  stands_left h = cc (take-take (length x) (length (x ++ y)) (drop at s) (simp length-append (omega arith)), take-append_seam x y)

  pub stands_right : {next : ℕ} → at + length x ≡ next → Stands s at (x ++ y) → Stands s next y
  stands_right {next} e h =
      let left = stands_left h in
      let seam = drop-append_seam x (take (length y) (drop next s)) in
      cc (take-add (length x) (length y) (drop at s), drop-drop (length x) at s, length-append x y, drop-append_seam x y)

  pub stands_both : {next : ℕ} → at + length x ≡ next → Stands s at x → Stands s next y → Stands s at (x ++ y)
  stands_both e h k = cc (take-add (length x) (length y) (drop at s), drop-drop (length x) at s, length-append x y)

-- a byte of a part, and a part that is stored
pub byte_of_part : (s : List ℕ) (at width i : ℕ) → i < width → take (at + width - at) (drop at s) ! i ≡ s ! (at + i)
byte_of_part s at width i h = get_or-take (at + width - at) (drop at s) i 0 (omega arith) ∙ get_or-drop at s i 0

pub part_stored : (s : List ℕ) (at width : ℕ) (x : List ℕ) → length x ≡ width → at + width ≤ length s → put_mid at (at + width - at) s x ≡ sets s at x
part_stored s at width x e h =
    let n : at + width - at ≡ length x = omega arith in
    rw (n, sets-eq x s at (omega arith), append_assoc, drop-drop (length x) at s)

-- what stands in a list and is as long is that list
pub stands_whole : (s x : List ℕ) → length s ≡ length x → Stands s 0 x → x ≡ s
stands_whole s x e h = cc (take-length s)

pub stands_byte : (s : List ℕ) (at : ℕ) (x : List ℕ) (i : ℕ) → i < length x → Stands s at x → s ! (at + i) ≡ x ! i
stands_byte s at x i l h = cc (get_or-take (length x) (drop at s) i 0 l, get_or-drop at s i 0)

pub length_bytes : (width x : ℕ) → length (bytes width x) ≡ width
length_bytes zero x = refl
length_bytes (suc width) x = simp length-append (omega (arith, length_bytes width (x / 256)))

-- the last of a run may be stored first
pub sets_last : (l xs : List ℕ) (i d : ℕ) → sets (set l (i + length xs) d) i xs ≡ sets l i (xs ++ (d ∷ []))
sets_last l [] i d = rw add-zero
sets_last l (x ∷ xs) i d =
    let next : i + suc (length xs) ≡ suc i + length xs = omega arith in
    rw (set_comm l (i + suc (length xs)) i d x (omega arith), next) (sets_last (set l i x) xs (suc i) d)

-- one byte more of a number, and of a number that is written from its last byte
pub number_more : (s : List ℕ) (at i x b : ℕ) → x ≡ number_at s at i → b ≡ s ! (at + i) → x * 256 + b ≡ number_at s at (i + 1)
number_more s at i x b e h = rw (add-one i, e, h)

pub bytes_stored : (l : List ℕ) (at i x : ℕ) → at < i → sets (set l (i - 1) (x % 256)) at (bytes (i - 1 - at) (x / 256)) ≡ sets l at (bytes (i - at) x)
bytes_stored l at i x h =
    let n = i - 1 - at in
    let is : i - at ≡ suc n = omega arith in
    let front = bytes n (x / 256) in
    let place : i - 1 ≡ at + length front = omega (arith, length_bytes n (x / 256)) in
    rw is (ap (λ (k : ℕ). sets (set l k (x % 256)) at front) place ∙ sets_last l front at (x % 256))

-- a number that was written reads back
pub number_bytes : (width x : ℕ) (s : List ℕ) (at : ℕ) → x < 256 ^ width → Stands s at (bytes width x) → number_at s at width ≡ x
number_bytes zero x s at h e = omega arith
number_bytes (suc width) x s at h e =
    let front = bytes width (x / 256) in
    let last = stands_byte s at _ width (omega (arith, length_bytes (suc width) x)) e ∙ get_or_at front (x % 256) [] 0 width (length_bytes width (x / 256)) in
    omega (arith, number_bytes width (x / 256) s at (omega arith) (stands_left s at front (x % 256 ∷ []) e))

-- and bytes that were read are those of their number
module _ (s : List ℕ) (byte : (i : ℕ) → s ! i < 256) where
  pub stands_number : (width at x : ℕ) → at + width ≤ length s → number_at s at width ≡ x → Stands s at (bytes width x)
  stands_number zero at x h e = refl
  stands_number (suc width) at x h e =
      let low = byte (at + width) in
      let last : s ! (at + width) ≡ x % 256 = omega arith in
      stands_both s at (bytes width (x / 256)) _ (ap (λ (n : ℕ). at + n) (length_bytes width (x / 256)))
      (stands_number width at (x / 256) (omega arith) (omega arith))
      (rw (drop-cons s (at + width) 0 (omega arith), last))

  pub number_below : (width at : ℕ) → number_at s at width < 256 ^ width
  number_below zero at = omega arith
  number_below (suc width) at = omega (arith, number_below width at, byte (at + width))

-- where the bytes are the same the number is
pub number_same : (s t : List ℕ) (at width : ℕ) → ((i : ℕ) → i < width → s ! (at + i) ≡ t ! (at + i)) → number_at s at width ≡ number_at t at width
number_same s t at zero h = refl
number_same s t at (suc width) h = rw (number_same s t at width (λ i l. h i (omega arith)), h width (omega arith))

-- a number in two stretches of bytes, read and written
pub number_append : (s : List ℕ) (at width v : ℕ) → number_at s at (width + v) ≡ number_at s at width * 256 ^ v + number_at s (at + width) v
number_append s at width zero = rw (add-zero width) (omega arith)
number_append s at width (suc v) =
    rw (add-suc width v, number_append s at width v, pow-suc 256 v, ← add_assoc at width v, ← mul_assoc (number_at s at width) (256 ^ v) 256) (omega arith)

pub bytes_append : (width v x y : ℕ) → y < 256 ^ v → bytes (width + v) (x * 256 ^ v + y) ≡ bytes width x ++ bytes v y
bytes_append width zero x y h = let e : x * 1 + y ≡ x = omega arith in rw (append-nil, add-zero, e)
bytes_append width (suc v) x y h =
    let high : x * 256 ^ suc v ≡ x * 256 ^ v * 256 = rw (pow-suc 256 v, mul_assoc x (256 ^ v) 256) in
    let quotient : (x * 256 ^ suc v + y) / 256 ≡ x * 256 ^ v + y / 256 = omega (arith, high) in
    let remainder : (x * 256 ^ suc v + y) % 256 ≡ y % 256 = omega (arith, high) in
    rw (add-suc width v, quotient, remainder, bytes_append width v x (y / 256) (omega arith), append_assoc)

-- two numbers after a mark, as in a head and in the record of a seat in use
module _ (s mark : List ℕ) (at : ℕ) {at₁ at₂ : ℕ} (width v x y : ℕ) (e₁ : at + length mark ≡ at₁) (e₂ : at₁ + width ≡ at₂) where
  past : at₁ + length (bytes width x) ≡ at₂
  past = omega (arith, length_bytes width x)

  pub two_read : x < 256 ^ width → y < 256 ^ v → Stands s at (mark ++ (bytes width x ++ bytes v y))
      → Stands s at mark × (number_at s at₁ width ≡ x) × (number_at s at₂ v ≡ y)
  two_read hx hy h =
      let both = stands_right s at mark _ e₁ h in (
        stands_left s at mark _ h,
        number_bytes width x s at₁ hx (stands_left s at₁ (bytes width x) _ both),
        number_bytes v y s at₂ hy (stands_right s at₁ (bytes width x) _ past both),
      )

  pub two_written : ((i : ℕ) → s ! i < 256) → at₂ + v ≤ length s → Stands s at mark → number_at s at₁ width ≡ x → number_at s at₂ v ≡ y
      → Stands s at (mark ++ (bytes width x ++ bytes v y))
  two_written byte h m ex ey =
      stands_both s at mark _ e₁ m
      (stands_both s at₁ (bytes width x) _ past (stands_number s byte width at₁ x (omega arith) ex) (stands_number s byte v at₂ y h ey))
