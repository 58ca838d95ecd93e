-- What `key_call` says, way out by way out.
use Rattle.promises.proofs.Prelude.{◌≡◌, ◌≢◌, true, List, [], ℕ, length, ne_eqb, eq-eqb}
use Rattle.rules.specs.Answers.{refused_at, done}
use Rattle.rules.specs.declared.Refusal.TheVariants.{Room}
use Rattle.fields.specs.Numbers.{bytes}
use Rattle.packet.specs.Packet.{well_formed, words_of}
use Rattle.packet.specs.Key.{key_of, key_call}

module _ (p k : List ℕ) where
  pub key_room : length k ≢ 8 → refused_at k Room ≡ key_call p k
  unfolding key_call
  key_room n = rw (ne_eqb (length k) 8 n)

  module _ (eight : length k ≡ 8) where
    pub key_done : well_formed p ≡ true → {x : ℕ} {after : List ℕ} → x ≡ key_of (words_of p) → after ≡ bytes 8 x → done [] after ≡ key_call p k
    unfolding key_call
    key_done fits is e = rw (eq-eqb (length k) 8 eight, fits, e, is)
