-- The definitions compute the keys.
use Rattle.promises.proofs.Prelude.{◌≡◌, refl, ◌∙◌, sym, ap, ◌≢◌, List, [], ℕ, arith}
use Rattle.splitmix.specs.Generator.{output, mixed}
use Rattle.rules.specs.Table.{◌!◌}
use Rattle.rules.specs.Answers.{Outcome, done}
use Rattle.packet.specs.Packet.{well_formed, words_of}
use Rattle.packet.specs.Key.{key_call}
use Rattle.packet.specs.Worked.{KeyIs, tcp, udp, Worked4, Worked6, RoomFirst}

-- the first bytes tell two keys apart
differ : {o p : Outcome} {u v : List ℕ} → o ≡ done [] u → p ≡ done [] v → u ! 0 ≢ v ! 0 → o ≢ p
differ is₁ is₂ ne e = ne (ap (λ (o : Outcome). o.after ! 0) (sym is₁ ∙ e ∙ is₂))

tcp_key : KeyIs tcp 0x1DA5D05E11619584
unfolding mixed output well_formed words_of key_call
tcp_key = refl

pub worked4 : Worked4
unfolding mixed output well_formed words_of key_call
worked4 =
    record {
      whole = tcp_key;
      optioned = refl;
      first = refl;
      later = refl;
      short = refl;
      other_source = (refl, differ tcp_key refl (λ e. absurd (omega arith)));
      other_destination = (refl, differ tcp_key refl (λ e. absurd (omega arith)));
      other_protocol = (refl, differ tcp_key refl (λ e. absurd (omega arith)));
      other_source_port = (refl, differ tcp_key refl (λ e. absurd (omega arith)));
      other_destination_port = (refl, differ tcp_key refl (λ e. absurd (omega arith)));
    }

udp_key : KeyIs udp 0xC26496691F056A76
unfolding mixed output well_formed words_of key_call
udp_key = refl

pub worked6 : Worked6
unfolding mixed output well_formed words_of key_call
worked6 =
    record {
      whole = udp_key;
      other_first = (refl, differ udp_key refl (λ e. absurd (omega arith)));
      other_second = (refl, differ udp_key refl (λ e. absurd (omega arith)));
      other_third = (refl, differ udp_key refl (λ e. absurd (omega arith)));
      other_fourth = (refl, differ udp_key refl (λ e. absurd (omega arith)));
      other_protocol = (refl, differ udp_key refl (λ e. absurd (omega arith)));
      other_source_port = (refl, differ udp_key refl (λ e. absurd (omega arith)));
      other_destination_port = (refl, differ udp_key refl (λ e. absurd (omega arith)));
    }

pub room_first : RoomFirst
unfolding key_call
room_first = refl
