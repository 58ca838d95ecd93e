-- Request 1/13: the bytes that count. Two packets that agree wherever a rule of form or a word names a byte get the same answer; all their other bytes may
-- differ. Of IPv4 these are type of service, identification, the other flags, time to live, checksum and options; of IPv6 traffic class, flow label and
-- hop limit; of both the payload but for the ports, and whatever is given behind the packet.
use Rattle.std.specs.Prelude.{◌≡◌, true, List, ◌++◌, ℕ, ◌+◌, ◌<◌, ◌≤◌, length, leb}
use Rattle.rules.specs.Table.{◌!◌}
use Rattle.packet.specs.declared.Header.{Header}
use Rattle.packet.specs.Packet.{version, is_fragment, header4, header6, wants_ports}
use Rattle.packet.specs.Key.{key_call}

-- n bytes from `at` on
abbrev pub Same : List ℕ → List ℕ → ℕ → ℕ → Type 0
Same p q at n = (i : ℕ) → i < n → p ! (at + i) ≡ q ! (at + i)

-- the ports, where they are wanted and lie within the packet
abbrev pub SamePorts : List ℕ → List ℕ → Header → Type 0
SamePorts p q h = wants_ports h ≡ true → h.end + 4 ≤ h.total → Same p q h.end 4

-- both are given whole, or neither is
abbrev pub SameReach : List ℕ → List ℕ → Header → Type 0
SameReach p q h = leb h.total (length p) ≡ leb h.total (length q)

pub record Alike4 (p q : List ℕ) : Type 0 where
  pub four : version p ≡ 4
  pub first : p ! 0 ≡ q ! 0
  pub total : Same p q 2 2
  -- of bytes 6 and 7 no more
  pub fragment : is_fragment p ≡ is_fragment q
  pub protocol : p ! 9 ≡ q ! 9
  pub addresses : Same p q 12 8
  pub ports : SamePorts p q (header4 p)
  pub reach : SameReach p q (header4 p)

pub record Alike6 (p q : List ℕ) : Type 0 where
  -- of byte 0 no more: the rest is of the traffic class
  pub six : (version p ≡ 6) × (version q ≡ 6)
  pub payload : Same p q 4 2
  pub protocol : p ! 6 ≡ q ! 6
  pub addresses : Same p q 8 32
  pub ports : SamePorts p q (header6 p)
  pub reach : SameReach p q (header6 p)

abbrev pub Counts4 : Type 0
Counts4 = (p q k : List ℕ) → Alike4 p q → key_call p k ≡ key_call q k

abbrev pub Counts6 : Type 0
Counts6 = (p q k : List ℕ) → Alike6 p q → key_call p k ≡ key_call q k

-- whatever is given behind the total length, or behind the payload, of a packet that is accepted or refused
abbrev pub Behind4 : Type 0
Behind4 = (p x k : List ℕ) → version p ≡ 4 → 4 ≤ length p → (header4 p).total ≤ length p → key_call p k ≡ key_call (p ++ x) k

abbrev pub Behind6 : Type 0
Behind6 = (p x k : List ℕ) → version p ≡ 6 → (header6 p).total ≤ length p → key_call p k ≡ key_call (p ++ x) k
