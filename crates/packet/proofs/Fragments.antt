-- A fragment wants no ports, and a packet of a protocol without ports neither: so the rules of its header are all that it has to keep, and its ports are 0.
use Rattle.promises.proofs.Prelude.{◌≡◌, refl, ◌∙◌, sym, true, false, not, List, [], ℕ, ◌*◌, ◌^◌, add-zero, length, ne_eqb, eq-eqb, le-leb, ℕ_discrete}
use mathlib.Core.Bool.{and-false}
use Rattle.rules.specs.Answers.{done}
use Rattle.fields.specs.Numbers.{bytes}
use Rattle.packet.specs.declared.Header.{Header}
use Rattle.packet.specs.Packet.{version, header4, is_fragment, wants_ports, well_formed, words_of}
use Rattle.packet.specs.Key.{key_of, key_call}
use Rattle.packet.specs.Fragments.{From, without_ports, Fragments, OneKey, Whole}
use Rattle.packet.proofs.Told.{key_room, key_done}

fragment_none : (h : Header) → h.fragment ≡ true → wants_ports h ≡ false
fragment_none h e = rw e

module _ (source destination protocol : ℕ) (p k : List ℕ) (f : From source destination protocol p) where
  -- without ports to look for
  no_ports : wants_ports (header4 p) ≡ false → length k ≡ 8 → key_call p k ≡ done [] (bytes 8 (without_ports source destination protocol))
  unfolding well_formed words_of
  no_ports none eight =
      let is₄ = eq-eqb (version p) 4 f.four in
      let fits : well_formed p ≡ true = rw (is₄, none, le-leb _ _ f.least, le-leb _ _ f.header, le-leb _ _ f.given) in
      let words : key_of (words_of p) ≡ without_ports source destination protocol =
      rw (is₄, none, f.is_source, f.is_destination, f.is_protocol, add-zero (protocol * 2 ^ 32)) in
      sym (key_done p k eight fits (sym words) refl)

pub fragments : Fragments
fragments source destination protocol p k f part = no_ports source destination protocol p k f (fragment_none (header4 p) part)

pub one_key : OneKey
one_key source destination protocol p q k f part g part' = elim (ℕ_discrete (length k) 8) [
  | yes e ↦ fragments source destination protocol p k f part e ∙ sym (fragments source destination protocol q k g part' e)
  | no n ↦ sym (key_room p k n) ∙ key_room q k n
]

pub whole : Whole
whole source destination protocol p k f n₆ n₁₇ =
    no_ports source destination protocol p k f (rw (f.is_protocol, ne_eqb protocol 6 n₆, ne_eqb protocol 17 n₁₇) (and-false (not (is_fragment p))))
