-- The register at the start, as a number: in front of the bytes, or added to the first two of them. Assumes nothing.
use Prim.Native.Nat.{ℕ, ◌+◌, ◌*◌, ◌^◌, ◌<◌}
use mathlib.Core.List.{List}
use mathlib.Core.Path.{◌≡◌, refl, sym, ap, ap₂, ◌∙◌, subst}
use native.Mathlib.Nat.{mul_assoc, mul_comm, add_comm, add-zero}
use native.Mathlib.Omega.{arith}
use lib.Bits.{bit_xor, xor_comm, xor_shifted}
use lib.ListN.{length}
use lib.Pow.{pow-add, pow_pos}
use Rattle.checksum.specs.Checksum.{with_bit, start, checksum_from, checksum_of}
use Rattle.checksum_words.specs.Remainders.{number_from, number, remainder, start_before}
use Rattle.checksum_words.proofs.Remainders.{remainder_linear, zeros_first, same_behind, bytes_next}
use Rattle.checksum_words.proofs.Numbers.{number_behind, number_below}

pub start_left : remainder 16 start_before ≡ start
unfolding remainder with_bit
start_left = refl

start_before_law : (s : List ℕ) → checksum_of s ≡ remainder (8 * length s + 16) (number_from start_before s)
unfolding checksum_of
start_before_law s = ap (λ (c : ℕ). checksum_from c s) (sym start_left) ∙ bytes_next 16 start_before s

-- two bytes behind that number are what the start leaves as two bytes
two_bytes : remainder 32 (start_before * 2 ^ 16) ≡ remainder 16 start
unfolding remainder with_bit
two_bytes = refl

moved_on : (k : ℕ) → start_before * 2 ^ (k + 16) ≡ start_before * 2 ^ 16 * 2 ^ k + 0
moved_on k =
    ap (λ (x : ℕ). start_before * x) (pow-add 2 k 16 ∙ mul_comm (2 ^ k) (2 ^ 16))
    ∙ sym (mul_assoc start_before (2 ^ 16) (2 ^ k))
    ∙ sym (add-zero (start_before * 2 ^ 16 * 2 ^ k))

at_top : (k : ℕ) → remainder (16 + (k + 16)) (start_before * 2 ^ (k + 16)) ≡ remainder (k + 16) (start * 2 ^ k)
at_top k =
    ap₂ remainder (widths k) (moved_on k)
    ∙ same_behind k 32 16 (start_before * 2 ^ 16) start 0 (pow_pos k) two_bytes
    ∙ ap (remainder (k + 16)) (add-zero (start * 2 ^ k))
  where
    widths : (k : ℕ) → 16 + (k + 16) ≡ k + 32
    widths k = omega arith

pub start_first : (k : ℕ) (s : List ℕ) → 8 * length s ≡ k + 16 → checksum_of s ≡ remainder (k + 16) (bit_xor (number s) (start * 2 ^ k))
start_first k s e =
    start_before_law s
    ∙ ap (remainder (8 * length s + 16)) (number_behind start_before s)
    ∙ ap (λ (w : ℕ). remainder (w + 16) (start_before * 2 ^ w + number s)) e
    ∙ ap (λ (w : ℕ). remainder w (start_before * 2 ^ (k + 16) + number s)) (add_comm (k + 16) 16)
    ∙ ap (remainder (16 + (k + 16))) (sym (xor_shifted start_before (k + 16) (number s) below))
    ∙ remainder_linear (16 + (k + 16)) (start_before * 2 ^ (k + 16)) (number s)
    ∙ ap₂ bit_xor (at_top k) (zeros_first 16 (k + 16) (number s) below)
    ∙ xor_comm (remainder (k + 16) (start * 2 ^ k)) (remainder (k + 16) (number s))
    ∙ sym (remainder_linear (k + 16) (number s) (start * 2 ^ k))
  where
    below : number s < 2 ^ (k + 16)
    below = subst (λ (w : ℕ). number s < 2 ^ w) e (number_below s)
