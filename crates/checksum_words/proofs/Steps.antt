-- A word in front of others, and what it adds to them by its form, leave the same remainder: for one word behind it, two and four.
-- Assumes nothing.
use Prim.Native.Nat.{ℕ, ◌+◌, ◌*◌, ◌/◌, ◌%◌, ◌^◌, ◌<◌}
use mathlib.Core.Path.{◌≡◌, sym, ap, ap₂, ◌∙◌}
use native.Mathlib.Nat.{mod-lt, lt_of_le_of_lt, mul_assoc, add_assoc, add-mul}
use native.Mathlib.Omega.{arith}
use lib.Arith.{digits_lt}
use lib.Bits.{bit_xor, xor_comm, xor_lt, xor_block, xor_shifted}
use lib.Pow.{pow_pos, shr_le}
use Rattle.checksum_words.specs.Remainders.{remainder, two_words, four_words}
use Rattle.checksum_words.specs.Forms.{eval, to_one, to_one_near, to_high, to_low, to_second, to_third}
use Rattle.checksum_words.proofs.Remainders.{remainder_linear, zeros_first}
use Rattle.checksum_words.proofs.Forms.{one_law, near_law, to_two, two_law, to_four, four_law}

-- what the word leaves by itself, and what is behind it
added : (n a v y : ℕ) → y < 2 ^ n → remainder n v ≡ remainder (64 + n) (a * 2 ^ n)
    → remainder n (bit_xor y v) ≡ remainder (64 + n) (a * 2 ^ n + y)
added n a v y h e =
    ap (remainder n) (xor_comm y v)
    ∙ remainder_linear n v y
    ∙ ap₂ bit_xor e (sym (zeros_first 64 n y h))
    ∙ sym (remainder_linear (64 + n) (a * 2 ^ n) y)
    ∙ ap (remainder (64 + n)) (xor_shifted a n y h)

pub one_step : (a b : ℕ) → a < 2 ^ 64 → b < 2 ^ 64 → remainder 64 (bit_xor b (eval to_one a)) ≡ remainder 128 (two_words a b)
one_step a b ha hb = added 64 a (eval to_one a) b hb (one_law a ha)

-- of 16 bits: no two of its shifts meet
apart : (a : ℕ) → a < 2 ^ 16 → eval to_one_near a ≡ a * (2 ^ 48 + 2 ^ 20 + 1)
apart a h =
    ap (λ (x : ℕ). bit_xor x a) (xor_shifted a 48 (a * 2 ^ 20) (omega arith) ∙ again a)
    ∙ xor_shifted (a * 2 ^ 28 + a) 20 a (omega arith)
    ∙ whole a
  where
    again : (a : ℕ) → a * 2 ^ 48 + a * 2 ^ 20 ≡ (a * 2 ^ 28 + a) * 2 ^ 20
    again a = omega arith

    whole : (a : ℕ) → (a * 2 ^ 28 + a) * 2 ^ 20 + a ≡ a * (2 ^ 48 + 2 ^ 20 + 1)
    whole a = omega arith

pub near_step : (a b : ℕ) → a < 2 ^ 16 → b < 2 ^ 64 → remainder 64 (bit_xor b (a * (2 ^ 48 + 2 ^ 20 + 1))) ≡ remainder 128 (two_words a b)
near_step a b ha hb =
    ap (λ (x : ℕ). remainder 64 (bit_xor b x)) (sym (apart a ha)) ∙ added 64 a (eval to_one_near a) b hb (near_law a ha)

-- a word more in front, of words that are one number
more_first : (a p x y : ℕ) → a * (p * 2 ^ 64) + two_words x y ≡ two_words (a * p + x) y
more_first a p x y =
    ap (λ (k : ℕ). k + two_words x y) (sym (mul_assoc a p (2 ^ 64)))
    ∙ sym (add_assoc (a * p * 2 ^ 64) (x * 2 ^ 64) y)
    ∙ ap (λ (k : ℕ). k + y) (sym (add-mul (a * p) x (2 ^ 64)))

pub two_below : (b c : ℕ) → b < 2 ^ 64 → c < 2 ^ 64 → two_words b c < 2 ^ 128
two_below b c hb hc = digits_lt hb hc

four_below : (b c d w : ℕ) → b < 2 ^ 64 → c < 2 ^ 64 → d < 2 ^ 64 → w < 2 ^ 64 → four_words b c d w < 2 ^ 256
four_below b c d w hb hc hd hw = digits_lt (digits_lt (digits_lt hb hc) hd) hw

-- words that are added one by one
by_words : (x y u v : ℕ) → y < 2 ^ 64 → v < 2 ^ 64 → bit_xor (two_words x y) (bit_xor (u * 2 ^ 64) v) ≡ two_words (bit_xor x u) (bit_xor y v)
by_words x y u v hy hv = ap (bit_xor (two_words x y)) (xor_shifted u 64 v hv) ∙ xor_block 64 x u y v hy hv

-- a shift stays in its word
right_below : (a k : ℕ) → a < 2 ^ 64 → a / 2 ^ k < 2 ^ 64
right_below a k h = lt_of_le_of_lt (shr_le a k) h

up_below : (a k : ℕ) → a * 2 ^ k % 2 ^ 64 < 2 ^ 64
up_below a k = mod-lt (a * 2 ^ k) (pow_pos 64)

low_below : (a : ℕ) → a < 2 ^ 64 → eval to_low a < 2 ^ 64
low_below a h =
    let q : ℕ = bit_xor a (a / 2 ^ 32) in
    xor_lt 64 q (q * 2 ^ 40 % 2 ^ 64) (xor_lt 64 a (a / 2 ^ 32) h (right_below a 32 h)) (up_below q 40)

pub two_step : (a b c : ℕ) → a < 2 ^ 64 → b < 2 ^ 64 → c < 2 ^ 64
    → remainder 128 (two_words (bit_xor b (eval to_high a)) (bit_xor c (eval to_low a))) ≡ remainder 192 (two_words (two_words a b) c)
two_step a b c ha hb hc =
    ap (remainder 128) (sym (by_words b c (eval to_high a) (eval to_low a) hc (low_below a ha)))
    ∙ added 128 a (eval to_two a) (two_words b c) (two_below b c hb hc) (two_law a ha)
    ∙ ap (remainder 192) (more_first a (2 ^ 64) b c)

pub four_step : (a b c d w : ℕ) → a < 2 ^ 64 → b < 2 ^ 64 → c < 2 ^ 64 → d < 2 ^ 64 → w < 2 ^ 64
    → remainder 256 (four_words (bit_xor b a) (bit_xor c (eval to_second a)) (bit_xor d (eval to_third a)) (bit_xor w a))
    ≡ remainder 320 (two_words (four_words a b c d) w)
four_step a b c d w ha hb hc hd hw =
    ap (remainder 256) (sym together)
    ∙ added 256 a (eval to_four a) (four_words b c d w) (four_below b c d w hb hc hd hw) (four_law a ha)
    ∙ ap (remainder 320)
    (more_first a (2 ^ 192) (two_words (two_words b c) d) w
    ∙ ap (λ (x : ℕ). two_words x w) (more_first a (2 ^ 128) (two_words b c) d ∙ ap (λ (x : ℕ). two_words x d) (more_first a (2 ^ 64) b c)))
  where
    together : bit_xor (four_words b c d w) (eval to_four a) ≡ four_words (bit_xor b a) (bit_xor c (eval to_second a)) (bit_xor d (eval to_third a)) (bit_xor w a)
    together =
        by_words (two_words (two_words b c) d) w (bit_xor (bit_xor (a * 2 ^ 64) (eval to_second a) * 2 ^ 64) (eval to_third a)) a hw ha
        ∙ ap (λ (x : ℕ). two_words x (bit_xor w a)) (by_words (two_words b c) d (bit_xor (a * 2 ^ 64) (eval to_second a)) (eval to_third a) hd (up_below a 16))
        ∙ ap (λ (x : ℕ). two_words (two_words x (bit_xor d (eval to_third a))) (bit_xor w a)) (by_words b c a (eval to_second a) hc (right_below a 48 ha))
