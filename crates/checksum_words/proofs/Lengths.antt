-- The answer for each length, from what the functions below answer. Assumes nothing.
use Prim.Native.Nat.{ℕ, ◌+◌, ◌-◌, ◌*◌, ◌^◌, ◌<◌, ◌≤◌}
use mathlib.Core.List.{List, [], ◌∷◌, ◌++◌}
use mathlib.Core.Path.{◌≡◌, refl, sym, ap, ap₂, ◌∙◌, subst}
use native.Mathlib.Omega.{arith}
use native.Mathlib.Nat.{add_comm}
use lib.Bits.{bit_xor, xor_lt}
use lib.ListN.{length, length-drop, take, drop, take-append-drop}
use lib.Seq.{take_all, length-take-le}
use Rattle.checksum.specs.Checksum.{start, checksum_from, checksum_of}
use Rattle.checksum_words.specs.Remainders.{number, number_from, remainder, two_words, start_before}
use Rattle.checksum.proofs.Laws.{checksum_joined}
use Rattle.checksum_words.proofs.Numbers.{number_below, behind_below}
use Rattle.checksum_words.proofs.Remainders.{zeros_first, bytes_next}
use Rattle.checksum_words.proofs.Starts.{start_left, start_first}
use Rattle.checksum_words.proofs.Loops.{rest_of}
use Rattle.checksum_words.proofs.Fronts.{start_high, start_low, front_law}

pub of_none : (s : List ℕ) → length s ≡ 0 → start ≡ checksum_of s
unfolding checksum_of checksum_from
of_none [] h = refl
of_none (x ∷ xs) h = absurd (omega arith)

-- a number of bytes whose start is added to the first two
pub of_first : (n k x r : ℕ) (s : List ℕ) → n ≤ length s → 8 * n ≡ k + 16 → x ≡ number (take n s) → r ≡ remainder (k + 16) (bit_xor x (start * 2 ^ k))
    → r ≡ checksum_of (take n s)
of_first n k x r s h e ex er =
    er
    ∙ ap (λ (y : ℕ). remainder (k + 16) (bit_xor y (start * 2 ^ k))) ex
    ∙ sym (start_first k (take n s) (ap (λ (m : ℕ). 8 * m) (length-take-le n s h) ∙ e))

pub all_of : (n : ℕ) (s : List ℕ) → length s ≡ n → checksum_of (take n s) ≡ checksum_of s
all_of n s h = ap checksum_of (take_all n s (omega arith))

-- bytes behind a number of 64 bits in all
widths : (m : ℕ) → m ≤ 64 → 64 ≡ 64 - m + m
widths m h = omega arith

of_behind : (k a r : ℕ) (xs t : List ℕ) → remainder k a ≡ checksum_of xs → a < 2 ^ k → k + 8 * length t ≤ 64
    → r ≡ remainder 64 (number_from a t) → r ≡ checksum_of (xs ++ t)
of_behind k a r xs t e h room er =
    er
    ∙ ap (λ (m : ℕ). remainder m (number_from a t)) (widths (k + 8 * length t) room)
    ∙ zeros_first (64 - (k + 8 * length t)) (k + 8 * length t) (number_from a t) (behind_below k a t h)
    ∙ ap (λ (m : ℕ). remainder m (number_from a t)) (add_comm k (8 * length t))
    ∙ sym (bytes_next k a t)
    ∙ ap (λ (c : ℕ). checksum_from c t) e
    ∙ sym (checksum_joined xs t)

-- up to three bytes behind the number of the start
pub of_three : (r : ℕ) (s : List ℕ) → length s ≤ 3 → r ≡ remainder 64 (number_from start_before s) → r ≡ checksum_of s
of_three r s h = of_behind 16 start_before r [] s (start_left ∙ of_none [] refl) (omega arith) (omega arith)

-- up to three bytes behind four
pub of_seven : (x r : ℕ) (s : List ℕ) → 4 ≤ length s → length s ≤ 7 → x ≡ number (take 4 s)
    → r ≡ remainder 64 (number_from (bit_xor x (start * 2 ^ 16)) (take (length s - 4) (drop 4 s))) → r ≡ checksum_of s
of_seven x r s h m ex er =
    of_behind 32 (bit_xor x (start * 2 ^ 16)) r (take 4 s) (drop 4 s) (of_first 4 16 x (remainder 32 (bit_xor x (start * 2 ^ 16))) s h refl ex refl)
    (xor_lt 32 x (start * 2 ^ 16) below (omega arith)) (simp length-drop (omega arith))
    (er ∙ ap (λ (t : List ℕ). remainder 64 (number_from (bit_xor x (start * 2 ^ 16)) t)) (rest_of 4 s))
    ∙ ap checksum_of (take-append-drop 4 s)
  where
    below : x < 2 ^ 32
    below =
        subst (λ (y : ℕ). y < 2 ^ 32) (sym ex)
        (subst (λ (n : ℕ). number (take 4 s) < 2 ^ (8 * n)) (length-take-le 4 s h) (number_below (take 4 s)))

-- bytes in front of one word
pub of_front : (odd x w r : ℕ) (s : List ℕ) → odd ≤ 7 → length s ≡ odd + 9 → x ≡ number (take (odd + 1) s) → w ≡ number (take 8 (drop (odd + 1) s))
    → r ≡ remainder 128 (two_words (bit_xor x (start_high odd)) (bit_xor w (start_low odd))) → r ≡ checksum_of s
of_front odd x w r s few h ex ew er =
    er
    ∙ ap₂ (λ (y z : ℕ). remainder 128 (two_words (bit_xor y (start_high odd)) (bit_xor z (start_low odd)))) ex ew
    ∙ front_law odd s few (omega arith)
    ∙ all_of (odd + 9) s h

-- bytes behind those in front
pub of_rest : (n c r : ℕ) (s : List ℕ) → c ≡ checksum_of (take n s) → r ≡ checksum_from c (take (length s - n) (drop n s)) → r ≡ checksum_of s
of_rest n c r s ec er =
    er
    ∙ ap₂ checksum_from ec (rest_of n s)
    ∙ sym (checksum_joined (take n s) (drop n s))
    ∙ ap checksum_of (take-append-drop n s)
