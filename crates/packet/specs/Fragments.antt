-- Request 1/13: "all well-formed fragments of an IPv4 packet (its source, destination and protocol) get one key".
use Rattle.std.specs.Prelude.{◌≡◌, true, List, [], ◌∷◌, ◌≢◌, ℕ, ◌+◌, ◌*◌, ◌^◌, ◌≤◌, length}
use Rattle.rules.specs.Answers.{done}
use Rattle.fields.specs.Numbers.{bytes}
use Rattle.packet.specs.Packet.{version, is_fragment, header4, source4, destination4}
use Rattle.packet.specs.Key.{key_of, key_call}

-- p is an IPv4 packet that keeps the rules of its header, from this source to this destination, with this protocol. Nothing else is said of its bytes.
pub record From (source destination protocol : ℕ) (p : List ℕ) : Type 0 where
  pub four : version p ≡ 4
  pub least : 20 ≤ (header4 p).end
  pub header : (header4 p).end ≤ (header4 p).total
  pub given : (header4 p).total ≤ length p
  pub is_source : source4 p ≡ source
  pub is_destination : destination4 p ≡ destination
  pub is_protocol : (header4 p).protocol ≡ protocol

-- the key of the words with both ports 0
abbrev pub without_ports : ℕ → ℕ → ℕ → ℕ
without_ports source destination protocol = key_of ((source * 2 ^ 32 + destination) ∷ (protocol * 2 ^ 32) ∷ [])

-- no fragment is refused, and its key is a function of the three alone
abbrev pub Fragments : Type 0
Fragments =
    (source destination protocol : ℕ) (p k : List ℕ) → From source destination protocol p → is_fragment p ≡ true → length k ≡ 8
    → key_call p k ≡ done [] (bytes 8 (without_ports source destination protocol))

-- so all fragments of a packet get one key
abbrev pub OneKey : Type 0
OneKey =
    (source destination protocol : ℕ) (p q k : List ℕ) → From source destination protocol p → is_fragment p ≡ true
    → From source destination protocol q → is_fragment q ≡ true → key_call p k ≡ key_call q k

-- and of a protocol without ports the whole packet gets it too
abbrev pub Whole : Type 0
Whole =
    (source destination protocol : ℕ) (p k : List ℕ) → From source destination protocol p → protocol ≢ 6 → protocol ≢ 17 → length k ≡ 8
    → key_call p k ≡ done [] (bytes 8 (without_ports source destination protocol))
