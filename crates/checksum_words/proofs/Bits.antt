-- The definition's step for a bit is linear in register and bit together. Assumes nothing.
use Prim.Native.Nat.{ℕ, zero, suc, ◌*◌, ◌^◌, ◌<◌}
use mathlib.Core.Bool.{cond as if}
use mathlib.Core.Path.{◌≡◌, sym, ap, ap₂, ◌∙◌}
use native.Mathlib.Omega.{arith}
use lib.Bits.{bit_xor, xor_zero_r, xor_lt}
use lib.Dec.{eqb}
use Rattle.checksum.specs.Checksum.{top, moved, polynomial, with_bit}
use Rattle.checksum_words.proofs.Xor.{xor_assoc, xor_four, xor_shl}
use Rattle.checksum_words.specs.Forms.{Shifts, same, right, left, low, sum, then, eval}
use Rattle.checksum_words.proofs.Shifts.{linear}

-- the polynomial, where the bit is 1
abbrev spread : Shifts
spread = then (low 1) (sum (sum same (left 5)) (left 12))

-- the register moved on by a bit 0
abbrev move : Shifts
move = sum (then (left 1) (low 16)) (then (right 15) spread)

by_digits : (m t b : ℕ) → t < 2 → b < 2
    → if (eqb t b) m (bit_xor m polynomial) ≡ bit_xor (bit_xor m (eval spread t)) (eval move (b * 2 ^ 15))
by_digits m zero zero ht hb = sym (xor_zero_r (bit_xor m 0) ∙ xor_zero_r m)
by_digits m zero (suc zero) ht hb = sym (ap (λ (x : ℕ). bit_xor x polynomial) (xor_zero_r m))
by_digits m (suc zero) zero ht hb = sym (xor_zero_r (bit_xor m polynomial))
by_digits m (suc zero) (suc zero) ht hb = sym (xor_assoc m polynomial polynomial ∙ xor_zero_r m)
by_digits m zero (suc (suc b)) ht hb = absurd (omega arith)
by_digits m (suc zero) (suc (suc b)) ht hb = absurd (omega arith)
by_digits m (suc (suc t)) b ht hb = absurd (omega arith)

bit_law : (c b : ℕ) → c < 2 ^ 16 → b < 2 → with_bit c b ≡ eval move (bit_xor c (b * 2 ^ 15))
unfolding with_bit
bit_law c b hc hb = by_digits (moved c) (top c) b (omega arith) hb ∙ sym (linear move c (b * 2 ^ 15))

pub bit_linear : (c d a b : ℕ) → c < 2 ^ 16 → d < 2 ^ 16 → a < 2 → b < 2
    → with_bit (bit_xor c d) (bit_xor a b) ≡ bit_xor (with_bit c a) (with_bit d b)
bit_linear c d a b hc hd ha hb =
    bit_law (bit_xor c d) (bit_xor a b) (xor_lt 16 c d hc hd) (xor_lt 1 a b ha hb)
    ∙ ap (λ (x : ℕ). eval move (bit_xor (bit_xor c d) x)) (sym (xor_shl a b 15))
    ∙ ap (eval move) (xor_four c d (a * 2 ^ 15) (b * 2 ^ 15))
    ∙ linear move (bit_xor c (a * 2 ^ 15)) (bit_xor d (b * 2 ^ 15))
    ∙ sym (ap₂ bit_xor (bit_law c a hc ha) (bit_law d b hd hb))
