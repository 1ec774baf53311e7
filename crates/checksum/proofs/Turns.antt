-- A turn of a loop over bits or over bytes, on what is left of them.
use Prim.Native.Nat.{ℕ, zero, suc, ◌+◌, ◌-◌, ◌/◌, ◌%◌, ◌^◌, ◌<◌, ◌≤◌}
use mathlib.Core.List.{List, [], ◌∷◌}
use mathlib.Core.Path.{◌≡◌, refl, sym, ap}
use Rattle.std.proofs.Common.{add-one}
use native.Mathlib.Nat.{div-one}
use native.Mathlib.Numerals.{unary_clauses}
use native.Mathlib.Omega.{arith}
use lib.ListN.{length, drop, get_or, drop_of_length-le}
use lib.Seq.{drop-cons}
use Rattle.checksum.specs.Checksum.{with_bit, with_bits, bits_of, checksum_from}

-- the bit at a place of a byte
abbrev pub bit_at : ℕ → ℕ → ℕ
bit_at x place = x / 2 ^ place % 2

-- the bits at the places below a number, the highest first
unfoldable pub low_bits : ℕ → ℕ → List ℕ
low_bits x zero = []
low_bits x (suc place) = bit_at x place ∷ low_bits x place

pub all_bits : (x : ℕ) → low_bits x 8 ≡ bits_of x
unfolding low_bits bits_of
all_bits x = rw div-one

pub next_bit : (c x left : ℕ) → 0 < left → with_bits (with_bit c (bit_at x (left - 1))) (low_bits x (left - 1)) ≡ with_bits c (low_bits x left)
unfolding with_bits low_bits
next_bit c x zero some = absurd (omega arith)
next_bit c x (suc left) some = simp unary_clauses refl

pub last_bit : (c x left : ℕ) → left ≤ 0 → with_bits c (low_bits x left) ≡ c
unfolding with_bits low_bits
last_bit c x zero none = refl
last_bit c x (suc left) none = absurd (omega arith)

pub next_byte : (c : ℕ) (xs : List ℕ) (i : ℕ) → i < length xs
    → checksum_from (with_bits c (bits_of (get_or xs i 0))) (drop (i + 1) xs) ≡ checksum_from c (drop i xs)
unfolding checksum_from
next_byte c xs i less = rw add-one (ap (checksum_from c) (sym (drop-cons xs i 0 less)))

pub last_byte : (c : ℕ) (xs : List ℕ) (i : ℕ) → length xs ≤ i → checksum_from c (drop i xs) ≡ c
unfolding checksum_from
last_byte c xs i most = ap (checksum_from c) (drop_of_length-le xs most)
