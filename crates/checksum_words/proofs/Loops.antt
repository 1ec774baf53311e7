-- What a loop over words knows: the register that its words stand for, continued over the bytes that are left, gives the answer.
-- Assumes nothing.
use Prim.Native.Nat.{ℕ, zero, suc, ◌+◌, ◌-◌, ◌*◌, ◌/◌, ◌^◌, ◌<◌, ◌≤◌}
use mathlib.Core.List.{List, [], ◌∷◌}
use mathlib.Core.Path.{◌≡◌, refl, sym, ap, ap₂, ◌∙◌}
use native.Mathlib.Nat.{zero-add}
use native.Mathlib.Omega.{arith}
use lib.ListN.{length, length-take, length-drop, get_or, take, drop}
use lib.Seq.{take_all, drop-drop}
use Rattle.std.specs.Simd.{first_chunks}
use Rattle.checksum.specs.Checksum.{checksum_from}
use Rattle.checksum_words.specs.Remainders.{number, remainder, two_words, four_words}
use Rattle.checksum_words.proofs.Remainders.{zeros_first, word_next}
use Rattle.checksum_words.proofs.Steps.{two_below}

-- all that is left behind a part in front
pub rest_of : (n : ℕ) (s : List ℕ) → take (length s - n) (drop n s) ≡ drop n s
rest_of n s = take_all (length s - n) (drop n s) (simp length-drop (omega arith))

-- the word at a place among the words
word_at : (k i : ℕ) (s : List ℕ) → i < k → get_or (first_chunks 8 k s) i [] ≡ take 8 (drop (8 * i) s)
word_at zero i s h = absurd (omega arith)
word_at (suc k) zero s h = refl
word_at (suc k) (suc i) s h =
    let sum : 8 + 8 * i ≡ 8 * suc i = omega arith in
    word_at k i (drop 8 s) (omega arith) ∙ ap (take 8) (drop-drop (8 * i) 8 s ∙ ap (λ (j : ℕ). drop j s) sum)

-- a turn: a word more behind the words of before
pub next_turn : (n z y w i : ℕ) (s : List ℕ) (words : List (List ℕ)) → words ≡ first_chunks 8 (length s / 8) s → i < length s / 8
    → w ≡ number (take 8 (get_or words i [])) → remainder n y ≡ remainder (64 + n) (two_words z w)
    → checksum_from (remainder n y) (drop (8 * (i + 1)) s) ≡ checksum_from (remainder n z) (drop (8 * i) s)
next_turn n z y w i s words all less ew ey =
    let sum : 8 * i + 8 ≡ 8 * (i + 1) = omega arith in
    let word : get_or words i [] ≡ take 8 (drop (8 * i) s) = ap (λ (l : List (List ℕ)). get_or l i []) all ∙ word_at (length s / 8) i s less in
    let same : w ≡ number (take 8 (drop (8 * i) s)) =
    ew ∙ ap (λ (l : List ℕ). number (take 8 l)) word ∙ ap number (take_all 8 (take 8 (drop (8 * i) s)) (simp length-take (omega arith))) in
    ap₂ checksum_from (ey ∙ ap (λ (v : ℕ). remainder (64 + n) (two_words z v)) same) (sym (drop-drop 8 (8 * i) s ∙ ap (λ (j : ℕ). drop j s) sum))
    ∙ sym (word_next n z (drop (8 * i) s) (simp length-drop (omega arith)))

-- the end: no byte is left
pub at_end : (c r : ℕ) (s : List ℕ) → length s ≤ 0 → r ≡ c → r ≡ checksum_from c s
unfolding checksum_from
at_end c r [] h e = e
at_end c r (x ∷ xs) h e = absurd (omega arith)

-- two words are four
pub as_four : (h l : ℕ) → h < 2 ^ 64 → l < 2 ^ 64 → remainder 256 (four_words 0 0 h l) ≡ remainder 128 (two_words h l)
as_four h l hh hl =
    ap (λ (x : ℕ). remainder 256 (two_words x l)) (zero-add h) ∙ zeros_first 128 128 (two_words h l) (two_below h l hh hl)
