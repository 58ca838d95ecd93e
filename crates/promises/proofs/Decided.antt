-- What is known once a test has answered.
use mathlib.Core.Path.{◌≡◌, refl}
use mathlib.Core.Bool.{Bool, true, false, ◌&&◌, ◌||◌}
use mathlib.Core.Logic.{◌⊎◌, inl, inr}
use Prim.Native.Nat.{ℕ, ◌+◌, ◌<◌}
use native.Mathlib.Omega.{arith}
use borrow.Author.Count.{below_more}
use Rattle.promises.specs.Decides.{Decides, decided}

-- no Bool is both
pub true_or_false : {P : Type 0} (t : Bool) → t ≡ true → t ≡ false → P
true_or_false t p q = let z : ◌≡◌ {A = ℕ} 0 1 = cc in absurd (omega arith)

-- and each is one
pub bool_cases : (t : Bool) → (t ≡ true) ⊎ (t ≡ false)
bool_cases true = inl refl
bool_cases false = inr refl

pub both : (p q : Bool) → (p && q) ≡ true → (p ≡ true) × (q ≡ true)
both true q e = (refl, e)
both false q e = true_or_false false e refl

pub neither : (p q : Bool) → (p || q) ≡ false → (p ≡ false) × (q ≡ false)
neither true q e = true_or_false true refl e
neither false q e = (refl, e)

-- what a test's answer says
pub decides_true : {P : Type 0} (t : Bool) → t ≡ true → Decides t P → P
decides_true true e p = p
decides_true false e n = true_or_false false e refl

pub decides_false : {P : Type 0} (t : Bool) → t ≡ false → Decides t P → P → ⊥
decides_false true e p = true_or_false true refl e
decides_false false e n = n

pub decides_iff : {P Q : Type 0} (r : Bool) → (P → Q) → (Q → P) → Decides r P → Decides r Q
decides_iff true f g p = f p
decides_iff false f g n = λ q. n (g q)

-- R is both P and Q
pub decides_both : {P Q R : Type 0} (p q : Bool) → (P → Q → R) → (R → P) → (R → Q) → Decides p P → Decides q Q → Decides (p && q) R
decides_both false q f g h n d = λ r. n (g r)
decides_both true false f g h a n = λ r. n (h r)
decides_both true true f g h a b = f a b

-- what holds below i, and of i, holds below i + 1
pub decides_more : (P : ℕ → Type 0) (i : ℕ) (all one : Bool) → Decides all ((k : ℕ) → k < i → P k) → Decides one (P i) → Decides (all && one) ((k : ℕ) → k < i + 1 → P k)
decides_more P i all one = decides_both all one (below_more P i) (λ f k h. f k (omega arith)) (λ f. f i (omega arith))

-- the same of a decision
pub yes_true : {P : Type 0} (d : Dec P) → P → decided d ≡ true
yes_true (yes p) q = refl
yes_true (no n) q = absurd (n q)

pub no_false : {P : Type 0} (d : Dec P) → (P → ⊥) → decided d ≡ false
no_false (yes p) n = absurd (n p)
no_false (no m) n = refl

pub true_yes : {P : Type 0} (d : Dec P) → decided d ≡ true → P
true_yes (yes p) e = p
true_yes (no n) e = true_or_false false e refl
