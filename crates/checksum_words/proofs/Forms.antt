-- What remainder each form of shifts leaves: one computed test each, on the single bits. Assumes nothing.
use Prim.Native.Nat.{ℕ, ◌*◌, ◌^◌, ◌<◌}
use mathlib.Core.Path.{◌≡◌, ap, ◌∙◌}
use Rattle.checksum.specs.Checksum.{with_bit}
use Rattle.checksum_words.specs.Remainders.{remainder}
use Rattle.checksum_words.specs.Forms.{Shifts, same, left, sum, then, eval, of_half, of_word, to_one, to_one_near, to_high, to_low, to_second, to_third}
use Rattle.checksum_words.proofs.Linear.{Linear, agree}
use Rattle.checksum_words.proofs.Shifts.{linear}
use Rattle.checksum_words.proofs.Remainders.{remainder_linear}

pub half_law : (a : ℕ) → a < 2 ^ 32 → eval of_half a ≡ remainder 32 a
unfolding remainder with_bit
half_law = agree (eval of_half) (remainder 32) (linear of_half) (remainder_linear 32) 32 tt

pub word_law : (a : ℕ) → a < 2 ^ 64 → eval of_word a ≡ remainder 64 a
unfolding remainder with_bit
word_law = agree (eval of_word) (remainder 64) (linear of_word) (remainder_linear 64) 64 tt

-- what a form leaves is linear
leaves : (n : ℕ) (e : Shifts) → Linear (λ (a : ℕ). remainder n (eval e a))
leaves n e a b = ap (remainder n) (linear e a b) ∙ remainder_linear n (eval e a) (eval e b)

pub one_law : (a : ℕ) → a < 2 ^ 64 → remainder 64 (eval to_one a) ≡ remainder 128 (a * 2 ^ 64)
unfolding remainder with_bit
one_law = agree (λ (a : ℕ). remainder 64 (eval to_one a)) (λ (a : ℕ). remainder 128 (a * 2 ^ 64)) (leaves 64 to_one) (leaves 128 (left 64)) 64 tt

pub near_law : (a : ℕ) → a < 2 ^ 16 → remainder 64 (eval to_one_near a) ≡ remainder 128 (a * 2 ^ 64)
unfolding remainder with_bit
near_law = agree (λ (a : ℕ). remainder 64 (eval to_one_near a)) (λ (a : ℕ). remainder 128 (a * 2 ^ 64)) (leaves 64 to_one_near) (leaves 128 (left 64)) 16 tt

-- the words that a form adds, as one number
abbrev pub to_two : Shifts
to_two = sum (then to_high (left 64)) to_low

pub two_law : (a : ℕ) → a < 2 ^ 64 → remainder 128 (eval to_two a) ≡ remainder 192 (a * 2 ^ 128)
unfolding remainder with_bit
two_law = agree (λ (a : ℕ). remainder 128 (eval to_two a)) (λ (a : ℕ). remainder 192 (a * 2 ^ 128)) (leaves 128 to_two) (leaves 192 (left 128)) 64 tt

abbrev pub to_four : Shifts
to_four = sum (then (sum (then (sum (left 64) to_second) (left 64)) to_third) (left 64)) same

pub four_law : (a : ℕ) → a < 2 ^ 64 → remainder 256 (eval to_four a) ≡ remainder 320 (a * 2 ^ 256)
unfolding remainder with_bit
four_law = agree (λ (a : ℕ). remainder 256 (eval to_four a)) (λ (a : ℕ). remainder 320 (a * 2 ^ 256)) (leaves 256 to_four) (leaves 320 (left 256)) 64 tt
