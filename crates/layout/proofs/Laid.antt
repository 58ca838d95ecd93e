-- The parts of an opening, laid out one after the other, are its words.
use Rattle.promises.proofs.Prelude.{◌≡◌, refl, ◌∙◌, ap, List, ℕ, ◌≤◌, ◌+◌, arith, length, set, length-set, take, length-drop, length-take}
use Rattle.promises.proofs.Prelude.{get_or-set_same}
use lib.Seq.{drop-set-lt}
use Rattle.rules.specs.Table.{Table, table, parts, words, base, run_length, part}
use Rattle.rules.specs.Changes.{count, opened, open_a, open_r, open_s, open_bare}
use Rattle.rules.proofs.Lists.{length_count}
use Rattle.rules.specs.Runs.{All, none, more}
use Rattle.rules.proofs.Words.{holds_words, holds_table, holds_head, holds_with}
use Rattle.layout.specs.Layout.{with_part}
use Rattle.rules.proofs.Openings.{length_open_a, length_open_r, length_open_s}

pub part_long : (w : List ℕ) (a k : ℕ) → base a k + a ≤ length w → length (part a k w) ≡ a
part_long w a k h = simp (length-take, length-drop) (omega arith)

-- the table of an opening without its ids, with the part S that the run had
abbrev pub bare_with : ℕ → ℕ → List ℕ → Table
bare_with a n S = table (open_bare a n) S

module _ (w : List ℕ) (a n : ℕ) (size : length w ≡ run_length a) (fit : n ≤ a) where
  pub laid_bare : (w' : List ℕ)
      → w' ≡ with_part a 4 (open_r a n) (with_part a 3 (count a 0) (with_part a 2 (count a 0) (with_part a 1 (count a 0) (with_part a 0 (open_a a n) (set (set w 0 a) 1 n)))))
      → w' ≡ words (bare_with a n (part a 5 w))
  laid_bare w' e =
      let h₀ = holds_table (set w 0 a) a (get_or-set_same w 0 a 0 (omega arith)) (length-set w 0 a ∙ size) in
      let h₁ = holds_head h₀ 1 n (omega arith) refl in
      let h₂ = holds_with h₁ 0 (open_a a n) (omega arith) (length_open_a a n fit) refl in
      let h₃ = holds_with h₂ 1 (count a 0) (omega arith) (length_count a 0) refl in
      let h₄ = holds_with h₃ 2 (count a 0) (omega arith) (length_count a 0) refl in
      let h₅ = holds_with h₄ 3 (count a 0) (omega arith) (length_count a 0) refl in
      let h₆ = holds_with h₅ 4 (open_r a n) (omega arith) (length_open_r a n fit) refl in
      e ∙ h₆.is ∙ ap (λ (l : List ℕ). words (bare_with a n (take a l))) (drop-set-lt (base a 5) w 0 a (omega arith))

pub laid_out : (a : ℕ) (ids S w' : List ℕ) → length ids ≤ a → length S ≡ a → w' ≡ with_part a 5 (open_s a ids) (words (bare_with a (length ids) S)) → w' ≡ words (opened a ids)
unfolding opened
laid_out a ids S w' fit long e =
    let own = length_count a 0 in
    let sized : All a (parts (bare_with a (length ids) S)) = more (length_open_a a (length ids) fit) (more own (more own (more own (more (length_open_r a (length ids) fit) (more long none))))) in
    (holds_with (holds_words _ a sized) 5 (open_s a ids) (omega arith) (length_open_s a ids fit) e).is
