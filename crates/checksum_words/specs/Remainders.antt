-- What the steps of the code come to, and no promise of a call cites it: bytes as one number, and the register that a number leaves.
-- With numbers read as polynomials over two elements, a number a leaves the remainder of a x^16 by x^16 + x^12 + x^5 + 1.
use Rattle.std.specs.Prelude.{ℕ, zero, suc, ◌+◌, ◌*◌, ◌/◌, ◌%◌, ◌^◌, List, [], ◌∷◌}
use Rattle.checksum.specs.Checksum.{with_bit}

-- the number that bytes are behind a number a, the first byte highest
unfoldable pub number_from : ℕ → List ℕ → ℕ
number_from a [] = a
number_from a (x ∷ xs) = number_from (a * 256 + x % 256) xs

-- the number that bytes are
abbrev pub number : List ℕ → ℕ
number xs = number_from 0 xs

-- two words, and four, as one number, the first highest
abbrev pub two_words : ℕ → ℕ → ℕ
two_words a b = a * 2 ^ 64 + b

abbrev pub four_words : ℕ → ℕ → ℕ → ℕ → ℕ
four_words a b c d = two_words (two_words (two_words a b) c) d

-- the register after the n lowest bits of a, the highest of them first, from an empty register
unfoldable pub remainder : ℕ → ℕ → ℕ
remainder zero a = 0
remainder (suc n) a = with_bit (remainder n (a / 2)) (a % 2)

-- the number that leaves the register at the start: in front of a message's bytes it stands for that register
abbrev pub start_before : ℕ
start_before = 0x84CF
