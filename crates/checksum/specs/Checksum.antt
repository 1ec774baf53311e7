-- The checksum of document 01, "Bytes on the line": "16 bits, polynomial 0x1021, start 0xFFFF, highest bit first,
-- no reflection, no final change" (CRC-16/CCITT-FALSE). The definitions stand in the order of those words.
use Rattle.std.specs.Prelude.{ℕ, ◌*◌, ◌/◌, ◌%◌, ◌^◌, cond as if, List, [], ◌∷◌, eqb}
use Rattle.std.specs.Int.Bits.{bit_xor}

-- "16 bits": the highest bit of the register c, which it loses as it moves one place to the left
abbrev pub top : ℕ → ℕ
top c = c / 2 ^ 15

-- "16 bits": the register after that move
abbrev pub moved : ℕ → ℕ
moved c = c * 2 % 2 ^ 16

-- "polynomial 0x1021": x^16 + x^12 + x^5 + 1, written without its highest term
abbrev pub polynomial : ℕ
polynomial = 0x1021

-- the register after the message's next bit, 0 or 1: moved and, where the bit lost differs from it, with the polynomial added
-- without carry
unfoldable pub with_bit : ℕ → ℕ → ℕ
with_bit c bit = if (eqb (top c) bit) (moved c) (bit_xor (moved c) polynomial)

-- the register after a list of bits, the first of them first
unfoldable pub with_bits : ℕ → List ℕ → ℕ
with_bits c [] = c
with_bits c (bit ∷ bits) = with_bits (with_bit c bit) bits

-- "start 0xFFFF": the register before the first bit
abbrev pub start : ℕ
start = 0xFFFF

-- "highest bit first, no reflection": the bits of a byte x, in the order in which they are taken
unfoldable pub bits_of : ℕ → List ℕ
bits_of x =
    x / 128 % 2 ∷ x / 64 % 2 ∷ x / 32 % 2 ∷ x / 16 % 2 ∷ x / 8 % 2 ∷ x / 4 % 2 ∷ x / 2 % 2 ∷ x % 2 ∷ []

-- the checksum continued from c: the register after the bits of each byte in turn
unfoldable pub checksum_from : ℕ → List ℕ → ℕ
checksum_from c [] = c
checksum_from c (x ∷ xs) = checksum_from (with_bits c (bits_of x)) xs

-- the checksum of a list of bytes; "no final change": the register as the last bit left it
unfoldable pub checksum_of : List ℕ → ℕ
checksum_of xs = checksum_from start xs
