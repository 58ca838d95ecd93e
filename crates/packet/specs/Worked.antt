-- Request 1/13, 'Keys from packets': packets and their keys, worked out; for another build these are vectors. And for each word and each port two packets that
-- differ there alone, and whose keys differ: so a call that leaves one of them out of the key, or gives all packets one key, is none of ours.
use Rattle.std.specs.Prelude.{◌≡◌, List, [], ◌∷◌, ◌++◌, ◌≢◌, ℕ, set, replicate}
use Rattle.rules.specs.Answers.{done, refused_at}
use Rattle.rules.specs.declared.Refusal.TheVariants.{Room, Packet}
use Rattle.fields.specs.Numbers.{bytes}
use Rattle.packet.specs.Key.{key_call}

abbrev pub room : List ℕ
room = replicate 8 0

abbrev pub KeyIs : List ℕ → ℕ → Type 0
KeyIs p x = key_call p room ≡ done [] (bytes 8 x)

-- q has the key x, and p another
abbrev pub Other : List ℕ → List ℕ → ℕ → Type 0
Other p q x = KeyIs q x × (key_call p room ≢ key_call q room)

-- 192.0.2.1 to 198.51.100.2, TCP, with these bytes behind the header's twenty
abbrev behind : List ℕ → List ℕ
behind x =
    (0x45 ∷ 0x00 ∷ 0x00 ∷ 0x18 ∷ 0x00 ∷ 0x00 ∷ 0x00 ∷ 0x00 ∷ 0x40 ∷ 0x06 ∷ 0x00 ∷ 0x00 ∷ [])
    ++ (0xC0 ∷ 0x00 ∷ 0x02 ∷ 0x01 ∷ 0xC6 ∷ 0x33 ∷ 0x64 ∷ 0x02 ∷ []) ++ x

-- from port 1024 to port 80
abbrev pub tcp : List ℕ
tcp = behind (0x04 ∷ 0x00 ∷ 0x00 ∷ 0x50 ∷ [])

-- behind four bytes of options; as a first fragment; as a later one with a single byte; with a total length that ends within the ports
abbrev pub with_options : List ℕ
with_options = set (set (behind (0x01 ∷ 0x01 ∷ 0x01 ∷ 0x00 ∷ 0x04 ∷ 0x00 ∷ 0x00 ∷ 0x50 ∷ [])) 0 0x46) 3 0x1C

abbrev pub first_fragment : List ℕ
first_fragment = set tcp 6 0x20

abbrev pub later_fragment : List ℕ
later_fragment = set (set (behind (0x61 ∷ [])) 3 0x15) 7 0x03

abbrev pub cut_short : List ℕ
cut_short = set tcp 3 0x17

-- 2001:db8::1 to 2001:db8::2, UDP from port 1024 to port 53
abbrev pub udp : List ℕ
udp =
    (0x60 ∷ 0x00 ∷ 0x00 ∷ 0x00 ∷ 0x00 ∷ 0x04 ∷ 0x11 ∷ 0x40 ∷ [])
    ++ (0x20 ∷ 0x01 ∷ 0x0D ∷ 0xB8 ∷ 0x00 ∷ 0x00 ∷ 0x00 ∷ 0x00 ∷ 0x00 ∷ 0x00 ∷ 0x00 ∷ 0x00 ∷ 0x00 ∷ 0x00 ∷ 0x00 ∷ 0x01 ∷ [])
    ++ (0x20 ∷ 0x01 ∷ 0x0D ∷ 0xB8 ∷ 0x00 ∷ 0x00 ∷ 0x00 ∷ 0x00 ∷ 0x00 ∷ 0x00 ∷ 0x00 ∷ 0x00 ∷ 0x00 ∷ 0x00 ∷ 0x00 ∷ 0x02 ∷ [])
    ++ (0x04 ∷ 0x00 ∷ 0x00 ∷ 0x35 ∷ [])

pub record Worked4 : Type 0 where
  pub whole : KeyIs tcp 0x1DA5D05E11619584
  pub optioned : KeyIs with_options 0x1DA5D05E11619584
  pub first : KeyIs first_fragment 0x4C7A8E9D8D1C25A0
  pub later : KeyIs later_fragment 0x4C7A8E9D8D1C25A0
  pub short : key_call cut_short room ≡ refused_at room Packet
  pub other_source : Other tcp (set tcp 15 0x02) 0xFCE099CE9F44746E
  pub other_destination : Other tcp (set tcp 19 0x03) 0x39F4F9E668139E97
  pub other_protocol : Other tcp (set tcp 9 0x11) 0xE626E6067FFD4BF0
  pub other_source_port : Other tcp (set tcp 21 0x01) 0xB479F12526BA7DA7
  pub other_destination_port : Other tcp (set tcp 23 0x51) 0xEA7A9A9C0579C7D6

-- ROOM before PACKET: of no bytes into no bytes
abbrev pub RoomFirst : Type 0
RoomFirst = key_call [] [] ≡ refused_at [] Room

pub record Worked6 : Type 0 where
  pub whole : KeyIs udp 0xC26496691F056A76
  pub other_first : Other udp (set udp 15 0x01) 0x306EA39188E4C2CD
  pub other_second : Other udp (set udp 23 0x02) 0x606AF33C5D4BDF04
  pub other_third : Other udp (set udp 31 0x01) 0xD1396D2499A19BDE
  pub other_fourth : Other udp (set udp 39 0x03) 0xA1D46E40A777472A
  pub other_protocol : Other udp (set udp 6 0x06) 0x04A3249D3F18F174
  pub other_source_port : Other udp (set udp 41 0x01) 0xC380FC63F27909E7
  pub other_destination_port : Other udp (set udp 43 0x36) 0x88C48932869C4624
