-- The stores of a change, one after the other, leave the words of the change.
use Rattle.promises.proofs.Prelude.{◌≡◌, refl, ◌∙◌, ap, List, ℕ, ◌-◌, ◌<◌, ◌+◌, arith, set}
use Rattle.rules.specs.Table.{◌!◌, Table, with_bare, head, parts, words, base, part, table_for}
use Rattle.rules.specs.Runs.{Legal, Holds}
use Rattle.rules.specs.Changes.{last_out, take_out, seat_id, Leaves}
use Rattle.rules.proofs.Words.{holds_table, holds_head, holds_put, holds_part}
use Rattle.sound.specs.Test.{Test}
use Rattle.moves.proofs.Ready.{last_out_below, next_below, back_below, place_below, end_below}

module _ {w : List ℕ} {a : ℕ} (l : Legal w a) (t : Test (table_for a w).bare) {n : ℕ} (is-n : n ≡ w ! 1) where
  abbrev T : Table
  T = table_for a w

  start : Holds w (set (head T) 1 n) a (parts T)
  start = rw is-n (holds_table w a l.first l.shape.size)

  module _ {b last position : ℕ} (v : Leaves T.bare b) (is_last : last ≡ T.bare.W ! (n - 1)) (is-position : position ≡ T.bare.L ! b) where
    pub out_last : last < a
    out_last = rw (is_last, is-n) (end_below t v)

    pub out_place : position < a
    out_place = rw is-position (place_below t v)

    pub taken_out : {w₁ w₂ w₃ : List ℕ}
        → w₁ ≡ set (set (set w (base a 4 + (a - (n - 1 + 1))) b) 1 (n - 1)) (base a 0 + b) (n - 1)
        → w₂ ≡ set (set (set w₁ (base a 1 + b) last) (base a 2 + position) last) (base a 3 + last) position
        → w₃ ≡ set w₂ (base a 5 + b) 0
        → w₃ ≡ words (take_out T b)
    taken_out e₁ e₂ e₃ =
        let same : n - 1 + 1 ≡ n = omega (arith, v.two) in
        let r = holds_put start 4 (a - (n - 1 + 1)) b (omega arith) (omega (arith, v.two, v.below)) refl in
        let h₁ = holds_put (holds_head r 1 (n - 1) (omega arith) refl) 0 b (n - 1) (omega arith) v.below e₁ in
        let k = holds_put h₁ 1 b last (omega arith) v.below refl in
        let h₂ = holds_put (holds_put k 2 position last (omega arith) out_place refl) 3 last position (omega arith) out_last e₂ in
        (holds_put h₂ 5 b 0 (omega arith) v.below e₃).is ∙ rw (same, is_last, is-position, is-n) refl

  module _ {b last : ℕ} (room : T.bare.used < a) (is_b : b ≡ T.bare.R ! (a - n - 1)) (is_last : last ≡ T.bare.W ! n) where
    pub is_out : b ≡ last_out T.bare
    is_out = is_b ∙ rw is-n refl

    pub out_below : b < a
    out_below = rw is_out (last_out_below t room)

    pub last_below : last < a
    last_below = rw (is_last, is-n) (next_below t room)

    module _ {w₁ : List ℕ} (e₁ : w₁ ≡ set (set (set w (base a 4 + (a - n - 1)) 0) (base a 0 + b) 0) (base a 3 + last) n) {position : ℕ} (is-position : position ≡ part a 3 w₁ ! b) where
      abbrev U : Table
      U = with_bare T (record { seats = a; used = n; A = set T.bare.A b 0; K = T.bare.K; W = T.bare.W; L = set T.bare.L last n; R = set T.bare.R (a - n - 1) 0 })

      h₁ : Holds w₁ (head U) a (parts U)
      h₁ =
          let r = holds_put start 4 (a - n - 1) 0 (omega arith) (omega arith) refl in
          holds_put (holds_put r 0 b 0 (omega arith) out_below refl) 3 last n (omega arith) last_below e₁

      -- the position is read after L has its word back
      read : position ≡ set T.bare.L (T.bare.W ! (w ! 1)) (w ! 1) ! last_out T.bare
      read = is-position ∙ ap (λ (x : List ℕ). x ! b) (holds_part h₁ 3 (omega arith)) ∙ rw (is_out, is_last, is-n) refl

      pub back_place : position < a
      back_place = rw read (back_below t room)

      pub seated : (id : ℕ) {w₂ w₃ : List ℕ}
          → w₂ ≡ set (set (set w₁ (base a 2 + position) b) (base a 1 + b) b) 1 (n + 1)
          → w₃ ≡ set w₂ (base a 5 + b) id
          → w₃ ≡ words (seat_id T id)
      seated id e₂ e₃ =
          let p = holds_put h₁ 2 position b (omega arith) back_place refl in
          let h₂ = holds_head (holds_put p 1 b b (omega arith) out_below refl) 1 (n + 1) (omega arith) e₂ in
          (holds_put h₂ 5 b id (omega arith) out_below e₃).is ∙ rw (read, is_out, is_last, is-n) refl
