-- A part of a run that is lent and comes back; a run made of parts of one length.
use Rattle.promises.proofs.Prelude.{◌≡◌, refl, ◌∙◌, sym, ap, ap₂, List, [], ◌∷◌, ◌++◌, append_assoc, ℕ, ◌-◌, ◌≤◌, ◌<◌, ◌+◌, suc, zero, ◌*◌, zero-add, arith}
use Rattle.promises.proofs.Prelude.{length, drop, set, length-append, length-set, take, length-drop, take-append-drop, get_or, length-take, length-take-le}
use Rattle.promises.proofs.Prelude.{take_at}
use native.Mathlib.Nat.{suc-mul, zero-mul, suc-add}
use lib.Seq.{set-append_left, drop_at, take-append-add, drop-append-add}
use Rattle.rules.specs.Table.{joined}
use Rattle.rules.specs.Runs.{All, none, more}

-- a store past the first list
pub set_append_add : (xs ys : List ℕ) (n v : ℕ) → set (xs ++ ys) (length xs + n) v ≡ xs ++ set ys n v
set_append_add [] ys n v = rw zero-add refl
set_append_add (x ∷ xs) ys n v = rw suc-add (ap (λ (l : List ℕ). x ∷ l) (set_append_add xs ys n v))

-- a store into a part, said of the whole
part_set : (w : List ℕ) (lo k i v : ℕ) → i < k → lo + k ≤ length w
    → take lo w ++ (set (take k (drop lo w)) i v ++ drop k (drop lo w)) ≡ set w (lo + i) v
part_set w lo k i v hi hk =
    ap (λ (l : List ℕ). take lo w ++ l)
    (sym (set-append_left (take k (drop lo w)) (drop k (drop lo w)) i v (simp (length-take, length-drop) (omega arith)))
    ∙ ap (λ (l : List ℕ). set l i v) (take-append-drop k (drop lo w)))
    ∙ sym (set_append_add (take lo w) (drop lo w) i v)
    ∙ ap₂ (λ (l : List ℕ) (n : ℕ). set l (n + i) v) (take-append-drop lo w) (length-take-le lo w (omega arith))

-- the same, as a function that lends `&mut t[lo..lo + a]` to a store finds it
pub part_put : (w ys : List ℕ) (lo a i v : ℕ) → ys ≡ set (take (lo + a - lo) (drop lo w)) i v → i < a → lo + a ≤ length w
    → take lo w ++ (ys ++ drop (lo + a - lo) (drop lo w)) ≡ set w (lo + i) v
part_put w ys lo a i v e hi hk =
    ap (λ (l : List ℕ). take lo w ++ (l ++ drop (lo + a - lo) (drop lo w))) e
    ∙ part_set w lo (lo + a - lo) i v (omega arith) (omega arith)

offset : {n : ℕ} (p : List ℕ) (k i : ℕ) → length p ≡ n → suc k * n + i ≡ length p + (k * n + i)
offset {n} p k i e = omega (arith, suc-mul k n)

pub set_joined : {n : ℕ} {ps : List (List ℕ)} → All n ps → (k i v : ℕ) → k < length ps → i < n
    → set (joined ps) (k * n + i) v ≡ joined (set ps k (set (get_or ps k []) i v))
set_joined none k i v h hi = refl
set_joined (more {p = p} {ps = ps} e a) zero i v h hi = rw (zero-mul, zero-add) (set-append_left p (joined ps) i v (omega arith))
set_joined (more {p = p} {ps = ps} e a) (suc k) i v h hi =
    ap (λ (j : ℕ). set (p ++ joined ps) j v) (offset p k i e)
    ∙ set_append_add p (joined ps) _ v
    ∙ ap (λ (l : List ℕ). p ++ l) (set_joined a k i v (omega arith) hi)

pub part_joined : {n : ℕ} {ps : List (List ℕ)} → All n ps → (k : ℕ) → k < length ps → take n (drop (k * n) (joined ps)) ≡ get_or ps k []
part_joined none k h = absurd (omega arith)
part_joined (more {p = p} {ps = ps} e a) zero h = rw zero-mul (take_at p (joined ps) _ e)
part_joined {n} (more {p = p} {ps = ps} e a) (suc k) h =
    let e' : suc k * n ≡ length p + k * n = omega (arith, suc-mul k n) in
    ap (λ (j : ℕ). take n (drop j (p ++ joined ps))) e'
    ∙ ap (take n) (drop-append-add p (joined ps) (k * n))
    ∙ part_joined a k (omega arith)

-- the parts keep their length
pub All-set : {n : ℕ} {ps : List (List ℕ)} → All n ps → (k i v : ℕ) → All n (set ps k (set (get_or ps k []) i v))
All-set none k i v = none
All-set (more {p = p} e a) zero i v = more (length-set p i v ∙ e) a
All-set (more e a) (suc k) i v = more e (All-set a k i v)

pub length_joined : {n : ℕ} {ps : List (List ℕ)} → All n ps → length (joined ps) ≡ length ps * n
length_joined {n} none = sym (zero-mul n)
length_joined {n} (more {p = p} {ps = ps} e a) = length-append p (joined ps) ∙ omega (arith, suc-mul (length ps) n, length_joined a)

-- a part replaced
pub joined_with : {n : ℕ} {ps : List (List ℕ)} (new : List ℕ) → All n ps → (k : ℕ) → k < length ps
    → take (k * n) (joined ps) ++ (new ++ drop n (drop (k * n) (joined ps))) ≡ joined (set ps k new)
joined_with new none k h = absurd (omega arith)
joined_with new (more {p = p} {ps = ps} e a) zero h = rw (zero-mul) (ap (λ (l : List ℕ). new ++ l) (drop_at p (joined ps) _ e))
joined_with {n} new (more {p = p} {ps = ps} e a) (suc k) h =
    let j : suc k * n ≡ length p + k * n = omega (arith, suc-mul k n) in
    rw (j, take-append-add p (joined ps) (k * n), drop-append-add p (joined ps) (k * n)) (append_assoc p _ _ ∙ ap (λ (l : List ℕ). p ++ l) (joined_with new a k (omega arith)))

pub All-with : {n : ℕ} {ps : List (List ℕ)} (new : List ℕ) → length new ≡ n → All n ps → (k : ℕ) → All n (set ps k new)
All-with new e none k = none
All-with new e (more f a) zero = more e a
All-with new e (more f a) (suc k) = more f (All-with new e a k)
