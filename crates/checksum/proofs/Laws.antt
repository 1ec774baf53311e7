-- The laws of the checksum that other crates cite, shown from its definition alone, so that they stay however it is computed.
use Prim.Native.Nat.{ℕ, ◌^◌, ◌<◌}
use mathlib.Core.Bool.{Bool, true, false, cond as if}
use mathlib.Core.List.{List, [], ◌∷◌, ◌++◌}
use mathlib.Core.Path.{◌≡◌, refl}
use native.Mathlib.Omega.{arith}
use lib.Bits.{xor_lt}
use lib.Dec.{eqb}
use Rattle.checksum.specs.Checksum.{top, moved, polynomial, with_bit, with_bits, start, bits_of, checksum_from, checksum_of}

-- the checksum of two lists joined is that of the second, continued from that of the first
pub from_joined : (c : ℕ) (xs ys : List ℕ) → checksum_from c (xs ++ ys) ≡ checksum_from (checksum_from c xs) ys
unfolding checksum_from
from_joined c [] ys = refl
from_joined c (x ∷ xs) ys = from_joined (with_bits c (bits_of x)) xs ys

pub checksum_joined : (xs ys : List ℕ) → checksum_of (xs ++ ys) ≡ checksum_from (checksum_of xs) ys
unfolding checksum_of
checksum_joined xs ys = from_joined start xs ys

-- the checksum has 16 bits
either_below : (t : Bool) {a b n : ℕ} → a < n → b < n → if t a b < n
either_below true p q = p
either_below false p q = q

pub bit_below : (c b : ℕ) → with_bit c b < 2 ^ 16
unfolding with_bit
bit_below c b = either_below (eqb (top c) b) (omega arith) (xor_lt 16 (moved c) polynomial (omega arith) (omega arith))

bits_below : (c : ℕ) (bs : List ℕ) → c < 2 ^ 16 → with_bits c bs < 2 ^ 16
unfolding with_bits
bits_below c [] h = h
bits_below c (b ∷ bs) h = bits_below (with_bit c b) bs (bit_below c b)

pub from_below : (c : ℕ) (xs : List ℕ) → c < 2 ^ 16 → checksum_from c xs < 2 ^ 16
unfolding checksum_from
from_below c [] h = h
from_below c (x ∷ xs) h = from_below (with_bits c (bits_of x)) xs (bits_below c (bits_of x) h)

pub checksum_below : (xs : List ℕ) → checksum_of xs < 2 ^ 16
unfolding checksum_of
checksum_below xs = from_below start xs (omega arith)
