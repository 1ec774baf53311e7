-- The register that a number leaves (`remainder`): it is linear, zeros in front change nothing, and bits behind the number, bytes above
-- all, continue it. Assumes nothing.
use Prim.Native.Nat.{ℕ, zero, suc, ◌+◌, ◌*◌, ◌/◌, ◌%◌, ◌^◌, ◌<◌, ◌≤◌}
use mathlib.Core.List.{List, [], ◌∷◌}
use mathlib.Core.Path.{◌≡◌, refl, sym, ap, ap₂, ◌∙◌, subst}
use native.Mathlib.Nat.{zero-add, suc-add, lt_of_lt_of_le}
use native.Mathlib.Numerals.{add-one}
use native.Mathlib.Omega.{arith}
use lib.Bits.{xor_shr, xor_mod, block_half, block_odd}
use lib.Arith.{lt-one}
use lib.ListN.{length, take, drop, take-append-drop}
use lib.Pow.{pow_mono, shr_lt}
use lib.Seq.{length-take-le}
use Rattle.checksum.specs.Checksum.{with_bit, with_bits, bits_of, checksum_from}
use Rattle.checksum_words.specs.Remainders.{number_from, number, two_words, remainder}
use Rattle.checksum.proofs.Laws.{bit_below, from_joined}
use Rattle.checksum_words.proofs.Bits.{bit_linear}
use Rattle.checksum_words.proofs.Linear.{Linear}
use Rattle.checksum_words.proofs.Numbers.{number_behind}

pub remainder_below : (n a : ℕ) → remainder n a < 2 ^ 16
unfolding remainder
remainder_below zero a = omega arith
remainder_below (suc n) a = bit_below (remainder n (a / 2)) (a % 2)

pub remainder_linear : (n : ℕ) → Linear (remainder n)
unfolding remainder
remainder_linear zero a b = refl
remainder_linear (suc n) a b =
    ap₂ with_bit (ap (remainder n) (xor_shr a b 1) ∙ remainder_linear n (a / 2) (b / 2)) (xor_mod a b 1)
    ∙ bit_linear (remainder n (a / 2)) (remainder n (b / 2)) (a % 2) (b % 2) (remainder_below n (a / 2)) (remainder_below n (b / 2)) (omega arith) (omega arith)

-- zeros in front
zero_first : (n a : ℕ) → a < 2 ^ n → remainder (suc n) a ≡ remainder n a
unfolding remainder with_bit
zero_first zero a h = ap (λ (x : ℕ). with_bit 0 (x % 2)) (lt-one h)
zero_first (suc n) a h =
    ap (λ (c : ℕ). with_bit c (a % 2)) (zero_first n (a / 2) (shr_lt n 1 (subst (λ (m : ℕ). a < 2 ^ m) (sym (add-one n)) h)))

pub zeros_first : (k n a : ℕ) → a < 2 ^ n → remainder (k + n) a ≡ remainder n a
zeros_first zero n a h = ap (λ (m : ℕ). remainder m a) (omega arith)
zeros_first (suc k) n a h =
    ap (λ (m : ℕ). remainder m a) (omega arith) ∙ zero_first (k + n) a (lt_of_lt_of_le h (pow_mono (omega arith))) ∙ zeros_first k n a h

alone : (n a w : ℕ) → w < 2 ^ 0 → remainder (0 + n) (a * 2 ^ 0 + w) ≡ remainder n a
alone n a w h = ap (λ (j : ℕ). remainder j (a * 2 ^ 0 + w)) (zero-add n) ∙ ap (remainder n) (omega arith)

-- what a number leaves decides what is left once the same bits stand behind it
pub same_behind : (k n m a b w : ℕ) → w < 2 ^ k → remainder n a ≡ remainder m b
    → remainder (k + n) (a * 2 ^ k + w) ≡ remainder (k + m) (b * 2 ^ k + w)
unfolding remainder
same_behind zero n m a b w h e = alone n a w h ∙ e ∙ sym (alone m b w h)
same_behind (suc k) n m a b w h e =
    ap (λ (j : ℕ). remainder j (a * 2 ^ suc k + w)) (suc-add k n)
    ∙ ap₂ with_bit (ap (remainder (k + n)) (block_half a k w)) (block_odd a k w)
    ∙ ap (λ (c : ℕ). with_bit c (w % 2)) (same_behind k n m a b (w / 2) (shr_lt k 1 (subst (λ (j : ℕ). w < 2 ^ j) (sym (add-one k)) h)) e)
    ∙ sym (ap₂ with_bit (ap (remainder (k + m)) (block_half b k w)) (block_odd b k w))
    ∙ sym (ap (λ (j : ℕ). remainder j (b * 2 ^ suc k + w)) (suc-add k m))

-- bytes behind a number
in_bits : (n a x z : ℕ) → z ≡ a * 256 + x % 256
    → with_bits (remainder n a) (bits_of x) ≡ remainder (suc (suc (suc (suc (suc (suc (suc (suc n)))))))) z
unfolding remainder with_bits bits_of
in_bits n a x z e =
    ap₂ with_bit (ap₂ with_bit (ap₂ with_bit (ap₂ with_bit (ap₂ with_bit (ap₂ with_bit (ap₂ with_bit (ap₂ with_bit
    (ap (remainder n) (omega arith)) (omega arith)) (omega arith)) (omega arith)) (omega arith)) (omega arith)) (omega arith)) (omega arith)) (omega arith)

pub bytes_next : (n a : ℕ) (xs : List ℕ) → checksum_from (remainder n a) xs ≡ remainder (8 * length xs + n) (number_from a xs)
unfolding checksum_from number_from
bytes_next n a [] = ap (λ (m : ℕ). remainder m a) (omega arith)
bytes_next n a (x ∷ xs) =
    ap (λ (c : ℕ). checksum_from c xs) (in_bits n a x (a * 256 + x % 256) refl)
    ∙ bytes_next (suc (suc (suc (suc (suc (suc (suc (suc n)))))))) (a * 256 + x % 256) xs
    ∙ ap (λ (m : ℕ). remainder m (number_from (a * 256 + x % 256) xs)) (omega arith)

-- eight of them
pub word_next : (n z : ℕ) (s : List ℕ) → 8 ≤ length s
    → checksum_from (remainder n z) s ≡ checksum_from (remainder (64 + n) (two_words z (number (take 8 s)))) (drop 8 s)
word_next n z s h =
    ap (checksum_from (remainder n z)) (sym (take-append-drop 8 s))
    ∙ from_joined (remainder n z) (take 8 s) (drop 8 s)
    ∙ ap (λ (c : ℕ). checksum_from c (drop 8 s))
    (bytes_next n z (take 8 s)
    ∙ ap (remainder (8 * length (take 8 s) + n)) (number_behind z (take 8 s))
    ∙ ap (λ (k : ℕ). remainder (8 * k + n) (z * 2 ^ (8 * k) + number (take 8 s))) (length-take-le 8 s h))
