-- Document 01, "Finding a key", its first paragraph: output n of SplitMix64 started at k. The numbers are natural numbers,
-- so "modulo 2^64" is written wherever the document writes it, and _/_ drops the remainder.
use Rattle.std.specs.Prelude.{ℕ, ◌+◌, ◌*◌, ◌/◌, ◌%◌, ◌^◌, bit_xor}

-- (z xor z/2^s) * c modulo 2^64
unfoldable pub mixed : ℕ → ℕ → ℕ → ℕ
mixed s c z = bit_xor z (z / 2 ^ s) * c % 2 ^ 64

-- twice mixed with its own high bits and another number, and mixed once more
abbrev pub scrambled : ℕ → ℕ
scrambled z₁ =
    let z₂ = mixed 30 0xbf58476d1ce4e5b9 z₁ in
    let z₃ = mixed 27 0x94d049bb133111eb z₂ in
    bit_xor z₃ (z₃ / 2 ^ 31)

-- k and n steps of one odd number
unfoldable pub output : ℕ → ℕ → ℕ
output n k = scrambled ((k + n * 0x9e3779b97f4a7c15) % 2 ^ 64)
