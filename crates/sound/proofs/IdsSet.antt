-- The ids stay good when one seat's word in A and its id change together.
use Rattle.promises.proofs.Prelude.{◌≡◌, ◌∙◌, sym, ◌≢◌, List, ℕ, ◌<◌, arith, ℕ_discrete, length, set, length-set, get_or-set_same, get_or-set_other}
use Rattle.rules.specs.Table.{◌!◌}
use Rattle.rules.specs.History.{Id}
use Rattle.sound.specs.Removals.{Ids}

module _ {a : ℕ} {A S : List ℕ} (b n id : ℕ) (g : Ids a A S) (h : b < a) (len : length A ≡ a)
    (out' : n ≢ 0 → id ≡ 0) (in' : n ≡ 0 → Id id) (new : id ≢ 0 → (x : ℕ) → x < a → S ! x ≢ id) where
  A_at : set A b n ! b ≡ n
  A_at = get_or-set_same A b n 0 (omega arith)

  S_at : set S b id ! b ≡ id
  S_at = get_or-set_same S b id 0 (omega (arith, g.size))

  S_off : (x : ℕ) → x ≢ b → set S b id ! x ≡ S ! x
  S_off x ne = get_or-set_other S b x id 0 ne

  pub ids_set : Ids a (set A b n) (set S b id)
  ids_set =
      record {
        size = length-set S b id ∙ g.size;
        none = λ x l. elim (ℕ_discrete x b) [
          | yes e ↦ rw (e, A_at, S_at) out'
          | no ne ↦ rw (get_or-set_other A b x n 0 ne, S_off x ne) (g.none x l)
        ];
        some = λ x l. elim (ℕ_discrete x b) [
          | yes e ↦ rw (e, A_at, S_at) in'
          | no ne ↦ rw (get_or-set_other A b x n 0 ne, S_off x ne) (g.some x l)
        ];
        apart = λ x y l m. elim (ℕ_discrete x b) [
          | yes e ↦ elim (ℕ_discrete y b) [
            | yes f ↦ λ o k. e ∙ sym f
            | no nf ↦ rw (e, S_at, S_off y nf) (λ o k. absurd (new o y m (sym k)))
          ]
          | no ne ↦ elim (ℕ_discrete y b) [
            | yes f ↦ rw (f, S_at, S_off x ne) (λ o k. absurd (new (λ z. o (k ∙ z)) x l k))
            | no nf ↦ rw (S_off x ne, S_off y nf) (g.apart x y l m)
          ]
        ];
      }
