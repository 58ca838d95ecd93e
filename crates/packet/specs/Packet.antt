-- Request 1/13, 'Keys from packets': a packet from its IP header on, and its words. A byte past the end reads as 0; of a well-formed packet none is read.
--
-- IPv4 (RFC 791, 3.1)                                       IPv6 (RFC 8200, 3)
--   byte 0   version, 4 bits; header length in words          byte 0   version, 4 bits
--   2, 3     total length                                     4, 5     payload length, without the header
--   6, 7     two flags, more-fragments, offset (13 bits)      6        next header
--   9        protocol                                         8 - 23   source
--   12 - 15  source                                           24 - 39  destination
--   16 - 19  destination; then options
use Rattle.std.specs.Prelude.{Bool, false, not, cond, ◌&&◌, ◌||◌, List, [], ◌∷◌, ℕ, ◌+◌, ◌*◌, ◌/◌, ◌%◌, ◌^◌, length, leb, eqb}
use Rattle.rules.specs.Table.{◌!◌}
use Rattle.fields.specs.Numbers.{number_at}
use Rattle.packet.specs.declared.Header.{Header}

abbrev pub version : List ℕ → ℕ
version p = p ! 0 / 16

-- a fragment has more-fragments set or a non-zero offset
abbrev pub is_fragment : List ℕ → Bool
is_fragment p = not (eqb (number_at p 6 2 % 2 ^ 14) 0)

abbrev pub header4 : List ℕ → Header
header4 p = record { end = p ! 0 % 16 * 4; total = number_at p 2 2; protocol = p ! 9; fragment = is_fragment p }

-- extension headers are not walked
abbrev pub header6 : List ℕ → Header
header6 p = record { end = 40; total = 40 + number_at p 4 2; protocol = p ! 6; fragment = false }

-- no fragment, and protocol 6 or 17
abbrev pub wants_ports : Header → Bool
wants_ports h = not h.fragment && (eqb h.protocol 6 || eqb h.protocol 17)

-- a header length of at least 5 words; the total length is at least the header, and at most the bytes given
abbrev pub fits4 : Header → ℕ → Bool
fits4 h given = leb 20 h.end && leb h.end h.total && leb h.total given

-- the 40-byte header and the payload are at most the bytes given
abbrev pub fits6 : Header → ℕ → Bool
fits6 h given = leb h.total given

-- wanted ports lie within the packet: the first four bytes after the header
abbrev pub ports_fit : Header → Bool
ports_fit h = not (wants_ports h) || leb (h.end + 4) h.total

abbrev pub well_formed4 : List ℕ → Bool
well_formed4 p = fits4 (header4 p) (length p) && ports_fit (header4 p)

abbrev pub well_formed6 : List ℕ → Bool
well_formed6 p = fits6 (header6 p) (length p) && ports_fit (header6 p)

unfoldable pub well_formed : List ℕ → Bool
well_formed p = cond (eqb (version p) 4) (well_formed4 p) (eqb (version p) 6 && well_formed6 p)

-- the ports, or 0
abbrev pub source_port : List ℕ → Header → ℕ
source_port p h = cond (wants_ports h) (number_at p h.end 2) 0

abbrev pub destination_port : List ℕ → Header → ℕ
destination_port p h = cond (wants_ports h) (number_at p (h.end + 2) 2) 0

abbrev pub ports : List ℕ → Header → ℕ
ports p h = source_port p h * 2 ^ 16 + destination_port p h

abbrev pub last_word : List ℕ → Header → ℕ
last_word p h = h.protocol * 2 ^ 32 + ports p h

abbrev pub source4 : List ℕ → ℕ
source4 p = number_at p 12 4

abbrev pub destination4 : List ℕ → ℕ
destination4 p = number_at p 16 4

abbrev pub words4 : List ℕ → List ℕ
words4 p = (source4 p * 2 ^ 32 + destination4 p) ∷ last_word p (header4 p) ∷ []

abbrev pub words6 : List ℕ → List ℕ
words6 p = number_at p 8 8 ∷ number_at p 16 8 ∷ number_at p 24 8 ∷ number_at p 32 8 ∷ last_word p (header6 p) ∷ []

unfoldable pub words_of : List ℕ → List ℕ
words_of p = cond (eqb (version p) 4) (words4 p) (words6 p)
