-- A part that is filled word by word.
use Rattle.promises.proofs.Prelude.{◌≡◌, sym, ◌∙◌, List, ℕ, ◌<◌, ◌+◌, arith, ℕ_discrete, length, set, length-set, get_or-set_same, get_or-set_other}
use lib.Seq.{ext_get_or}
use Rattle.rules.specs.Table.{◌!◌}
use Rattle.layout.specs.Layout.{with_part, Filling, Filled, Lays}

pub filling_more : {of : ℕ → ℕ → Type 0} {n i : ℕ} {l : List ℕ} (v : ℕ) → i < n → of i v → Filling of n i l → Filling of n (i + 1) (set l i v)
filling_more {of} {i = i} {l = l} v h e f =
    record {
      size = length-set l i v ∙ f.size;
      each = λ k m. elim (ℕ_discrete k i) [
        | yes q ↦ rw (q, get_or-set_same l i v 0 (omega (arith, f.size))) e
        | no ne ↦ rw (get_or-set_other l i k v 0 ne) (f.each k (omega arith))
      ];
    }

-- where what `of` has of an index is the word of `whole`
pub filled_is : {of : ℕ → ℕ → Type 0} {n : ℕ} {l : List ℕ} (whole : List ℕ) → length whole ≡ n → ((k x : ℕ) → k < n → of k x → x ≡ whole ! k) → Filled of n l → l ≡ whole
filled_is {l = l} whole e is f = ext_get_or 0 l whole (f.size ∙ sym e) (λ k m. is k _ (omega (arith, f.size)) (f.each k (omega (arith, f.size))))

-- and so a part that is laid is replaced by `whole`; all seats are still as many as at first
pub laid_is : {of : ℕ → ℕ → Type 0} {a n k : ℕ} {before after : List ℕ} (whole : List ℕ) → length whole ≡ a → ((i x : ℕ) → i < a → of i x → x ≡ whole ! i) → n ≡ a → Lays of n k before after
    → after ≡ with_part a k whole before
laid_is whole e is same l = let at = rw same at l in rw (filled_is whole e is at.filled) at at.rest
