-- One byte to eight in front of a word, with the start added, leave what they should: `odd` is their number less one.
-- Assumes nothing.
use Prim.Native.Nat.{ℕ, zero, suc, ◌+◌, ◌-◌, ◌*◌, ◌/◌, ◌%◌, ◌^◌, ◌<◌, ◌≤◌}
use mathlib.Core.List.{List}
use mathlib.Core.Path.{◌≡◌, refl, sym, ap, ap₂, ◌∙◌, subst}
use native.Mathlib.Nat.{mod-lt, add_comm}
use native.Mathlib.Omega.{arith}
use lib.Bits.{bit_xor, xor_block, xor_shr, xor_lt}
use lib.ListN.{length, length-drop, take, drop}
use lib.Pow.{pow_pos, shl_lt}
use lib.Seq.{length-take-le}
use Rattle.checksum.specs.Checksum.{start, checksum_of}
use Rattle.checksum_words.specs.Remainders.{number, remainder, two_words}
use Rattle.checksum_words.proofs.Numbers.{number_split, number_first, number_below}
use Rattle.checksum_words.proofs.Remainders.{zeros_first}
use Rattle.checksum_words.proofs.Starts.{start_first}

-- the start in front: as much of it as the bytes in front have room for, and what is left of it for the word
abbrev pub start_high : ℕ → ℕ
start_high odd = start * 2 ^ 48 / 2 ^ (56 - 8 * odd)

abbrev pub start_low : ℕ → ℕ
start_low odd = start * 2 ^ 56 % 2 ^ 64 * 2 ^ (8 * odd) % 2 ^ 64

-- are the start, behind which as many bits stand as behind the first two bytes
start_split : (odd : ℕ) → odd ≤ 7 → two_words (start_high odd) (start_low odd) ≡ start * 2 ^ (8 * odd + 56)
start_split zero h = refl
start_split (suc zero) h = refl
start_split (suc (suc zero)) h = refl
start_split (suc (suc (suc zero))) h = refl
start_split (suc (suc (suc (suc zero)))) h = refl
start_split (suc (suc (suc (suc (suc zero))))) h = refl
start_split (suc (suc (suc (suc (suc (suc zero)))))) h = refl
start_split (suc (suc (suc (suc (suc (suc (suc zero))))))) h = refl
start_split (suc (suc (suc (suc (suc (suc (suc (suc n)))))))) h = absurd (omega arith)

in_128 : (odd : ℕ) → odd ≤ 7 → 128 ≡ 56 - 8 * odd + (8 * odd + 56 + 16)
in_128 odd h = omega arith

as_eight : (odd : ℕ) → odd ≤ 7 → 8 ≡ odd + 1 + (7 - odd)
as_eight odd h = omega arith

as_bits : (odd : ℕ) → odd ≤ 7 → 56 - 8 * odd ≡ 8 * (7 - odd)
as_bits odd h = omega arith

sums : (odd : ℕ) → odd + 9 ≡ odd + 1 + 8
sums odd = omega arith

module _ (odd : ℕ) (s : List ℕ) (few : odd ≤ 7) (enough : odd + 9 ≤ length s) where
  first_length : length (take (odd + 9) s) ≡ odd + 9
  first_length = length-take-le (odd + 9) s enough

  -- the first bytes and the word behind them are one number
  whole : number (take (odd + 9) s) ≡ two_words (number (take (odd + 1) s)) (number (take 8 (drop (odd + 1) s)))
  whole = ap (λ (k : ℕ). number (take k s)) (sums odd) ∙ number_split (odd + 1) 8 s (omega arith)

  word_below : number (take 8 (drop (odd + 1) s)) < 2 ^ 64
  word_below =
      subst (λ (k : ℕ). number (take 8 (drop (odd + 1) s)) < 2 ^ (8 * k)) (length-take-le 8 (drop (odd + 1) s) (simp length-drop (omega arith)))
      (number_below (take 8 (drop (odd + 1) s)))

  bits : 8 * length (take (odd + 9) s) ≡ 8 * odd + 56 + 16
  bits = omega (arith, first_length)

  -- with the start added to the first two bytes
  sum_law : two_words (bit_xor (number (take (odd + 1) s)) (start_high odd)) (bit_xor (number (take 8 (drop (odd + 1) s))) (start_low odd))
      ≡ bit_xor (number (take (odd + 9) s)) (start * 2 ^ (8 * odd + 56))
  sum_law =
      sym (xor_block 64 (number (take (odd + 1) s)) (start_high odd) (number (take 8 (drop (odd + 1) s))) (start_low odd) word_below (mod-lt (start * 2 ^ 56 % 2 ^ 64 * 2 ^ (8 * odd)) (pow_pos 64)))
      ∙ ap₂ bit_xor (sym whole) (start_split odd few)

  sum_below : bit_xor (number (take (odd + 9) s)) (start * 2 ^ (8 * odd + 56)) < 2 ^ (8 * odd + 56 + 16)
  sum_below =
      xor_lt (8 * odd + 56 + 16) (number (take (odd + 9) s)) (start * 2 ^ (8 * odd + 56))
      (subst (λ (k : ℕ). number (take (odd + 9) s) < 2 ^ k) bits (number_below (take (odd + 9) s)))
      (subst (λ (k : ℕ). start * 2 ^ (8 * odd + 56) < 2 ^ k) (add_comm 16 (8 * odd + 56)) (shl_lt 16 (8 * odd + 56) (omega arith)))

  pub front_law : remainder 128 (two_words (bit_xor (number (take (odd + 1) s)) (start_high odd)) (bit_xor (number (take 8 (drop (odd + 1) s))) (start_low odd)))
      ≡ checksum_of (take (odd + 9) s)
  front_law =
      ap₂ remainder (in_128 odd few) sum_law
      ∙ zeros_first (56 - 8 * odd) (8 * odd + 56 + 16) (bit_xor (number (take (odd + 9) s)) (start * 2 ^ (8 * odd + 56))) sum_below
      ∙ sym (start_first (8 * odd + 56) (take (odd + 9) s) bits)

  -- the first bytes taken off a word
  pub front_by_word : bit_xor (number (take 8 s)) (start * 2 ^ 48) / 2 ^ (56 - 8 * odd) ≡ bit_xor (number (take (odd + 1) s)) (start_high odd)
  front_by_word =
      xor_shr (number (take 8 s)) (start * 2 ^ 48) (56 - 8 * odd)
      ∙ ap (λ (x : ℕ). bit_xor x (start_high odd))
      (ap₂ (λ (m k : ℕ). number (take m s) / 2 ^ k) (as_eight odd few) (as_bits odd few) ∙ number_first (odd + 1) (7 - odd) s (omega arith))
