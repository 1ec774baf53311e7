-- What the loop over single bytes knows: the number so far with the bytes that are left behind it is the number of all, and it leaves
-- room for them in 64 bits. Assumes nothing.
use Prim.Native.Nat.{ℕ, ◌+◌, ◌*◌, ◌%◌, ◌^◌, ◌<◌, ◌≤◌}
use mathlib.Core.List.{List, ◌∷◌}
use mathlib.Core.Path.{◌≡◌, sym, ap, ◌∙◌, subst}
use native.Mathlib.Nat.{le_trans, le_of_eq, mul_assoc, mul-one, mul-le-mul_left, mul-le-mul_right}
use native.Mathlib.Omega.{arith}
use lib.ListN.{length, get_or, drop, drop_of_length-le}
use lib.Pow.{pow_pos, pow-add, pow_mono}
use lib.Seq.{drop-cons}
use Rattle.std.proofs.Common.{add-one}
use Rattle.checksum_words.specs.Remainders.{number_from}
use Rattle.checksum_words.proofs.Numbers.{byte_more}

abbrev pub HasRoom : ℕ → List ℕ → Type 0
HasRoom a s = (a + 1) * 2 ^ (8 * length s) ≤ 2 ^ 64

-- a byte more has room
as_bytes : (a : ℕ) (x : ℕ) (xs : List ℕ) → HasRoom a (x ∷ xs) → (a + 1) * 256 * 2 ^ (8 * length xs) ≤ 2 ^ 64
as_bytes a x xs h =
    le_trans (le_of_eq (mul_assoc (a + 1) 256 (2 ^ (8 * length xs)) ∙ ap (λ (k : ℕ). (a + 1) * k) (sym (byte_more (length xs))))) h

room_in_front : (a x : ℕ) (xs : List ℕ) → HasRoom a (x ∷ xs) → (a + 1) * 256 ≤ 2 ^ 64
room_in_front a x xs r =
    le_trans (le_of_eq (sym (mul-one ((a + 1) * 256)))) (le_trans (mul-le-mul_left ((a + 1) * 256) (pow_pos (8 * length xs))) (as_bytes a x xs r))

room_behind : (a x : ℕ) (xs : List ℕ) → x < 256 → HasRoom a (x ∷ xs) → HasRoom (a * 256 + x) xs
room_behind a x xs b r = le_trans (mul-le-mul_right (2 ^ (8 * length xs)) (less a x b)) (as_bytes a x xs r)
  where
    less : (a w : ℕ) → w < 256 → a * 256 + w + 1 ≤ (a + 1) * 256
    less a w b = omega arith

byte_in_front : (a x : ℕ) (xs : List ℕ) → x < 256 → number_from (a * 256 + x) xs ≡ number_from a (x ∷ xs)
unfolding number_from
byte_in_front a x xs b = ap (λ (k : ℕ). number_from (a * 256 + k) xs) (below x b)
  where
    below : (x : ℕ) → x < 256 → x ≡ x % 256
    below x b = omega arith

-- the same of the bytes that are left from a place on
module _ (a : ℕ) (s : List ℕ) (i : ℕ) (less : i < length s) where
  split : drop i s ≡ get_or s i 0 ∷ drop (i + 1) s
  split = rw add-one (drop-cons s i 0 less)

  pub room : HasRoom a (drop i s) → (a + 1) * 256 ≤ 2 ^ 64
  room r = room_in_front a (get_or s i 0) (drop (i + 1) s) (subst (HasRoom a) split r)

  pub room_next : get_or s i 0 < 256 → HasRoom a (drop i s) → HasRoom (a * 256 + get_or s i 0) (drop (i + 1) s)
  room_next b r = room_behind a (get_or s i 0) (drop (i + 1) s) b (subst (HasRoom a) split r)

  pub byte_next : get_or s i 0 < 256 → number_from (a * 256 + get_or s i 0) (drop (i + 1) s) ≡ number_from a (drop i s)
  byte_next b = byte_in_front a (get_or s i 0) (drop (i + 1) s) b ∙ ap (number_from a) (sym split)

pub none_left : (a : ℕ) (s : List ℕ) (i : ℕ) → length s ≤ i → number_from a (drop i s) ≡ a
unfolding number_from
none_left a s i most = ap (number_from a) (drop_of_length-le s most)

-- a number of k bits has room for bytes that fill what is left of 64
pub has_room : (k a : ℕ) (s : List ℕ) → a < 2 ^ k → k + 8 * length s ≤ 64 → HasRoom a s
has_room k a s h fits =
    le_trans (mul-le-mul_right (2 ^ (8 * length s)) (least a (2 ^ k) h))
    (le_trans (le_of_eq (sym (pow-add 2 k (8 * length s)))) (pow_mono fits))
  where
    least : (a b : ℕ) → a < b → a + 1 ≤ b
    least a b h = omega arith
