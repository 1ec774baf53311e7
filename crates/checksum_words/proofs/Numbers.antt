-- The number that bytes are: bytes behind it, and the parts of it. Assumes nothing.
use Prim.Native.Nat.{ℕ, suc, ◌+◌, ◌-◌, ◌*◌, ◌/◌, ◌%◌, ◌^◌, ◌<◌, ◌≤◌}
use mathlib.Core.List.{List, [], ◌∷◌, ◌++◌}
use mathlib.Core.Path.{◌≡◌, refl, sym, ap, ◌∙◌, subst}
use native.Mathlib.Nat.{add-mul, mul_assoc, add_assoc}
use native.Mathlib.Omega.{arith}
use lib.Arith.{digits_lt}
use lib.ListN.{length, length-drop, get_or, take, drop}
use lib.Pow.{pow-add, high}
use lib.Seq.{length-take-le, take-add, drop-cons, drop-drop}
use Rattle.checksum_words.specs.Remainders.{number_from, number}
use Rattle.std.proofs.lemmas.List.{get_or-take, get_or-drop}

number_joined : (a : ℕ) (xs ys : List ℕ) → number_from a (xs ++ ys) ≡ number_from (number_from a xs) ys
unfolding number_from
number_joined a [] ys = refl
number_joined a (x ∷ xs) ys = number_joined (a * 256 + x % 256) xs ys

-- a byte is eight bits
pub byte_more : (n : ℕ) → 2 ^ (8 * suc n) ≡ 256 * 2 ^ (8 * n)
byte_more n = ap (λ (k : ℕ). 2 ^ k) (omega arith) ∙ pow-add 2 8 (8 * n)

pub number_behind : (a : ℕ) (xs : List ℕ) → number_from a xs ≡ a * 2 ^ (8 * length xs) + number xs
unfolding number_from
number_behind a [] = omega arith
number_behind a (x ∷ xs) =
    number_behind (a * 256 + x % 256) xs
    ∙ ap (λ (k : ℕ). k + number xs)
    (add-mul (a * 256) (x % 256) (2 ^ (8 * length xs)) ∙ ap (λ (k : ℕ). k + x % 256 * 2 ^ (8 * length xs)) (mul_assoc a 256 (2 ^ (8 * length xs)) ∙ ap (λ (k : ℕ). a * k) (sym (byte_more (length xs)))))
    ∙ add_assoc (a * 2 ^ (8 * suc (length xs))) (x % 256 * 2 ^ (8 * length xs)) (number xs)
    ∙ ap (λ (k : ℕ). a * 2 ^ (8 * suc (length xs)) + k) (sym (number_behind (0 * 256 + x % 256) xs ∙ ap (λ (k : ℕ). k * 2 ^ (8 * length xs) + number xs) (omega arith)))

pub number_below : (xs : List ℕ) → number xs < 2 ^ (8 * length xs)
unfolding number_from
number_below [] = omega arith
number_below (x ∷ xs) =
    subst (λ (k : ℕ). k < 2 ^ (8 * suc (length xs))) (sym (number_behind (0 * 256 + x % 256) xs))
    (subst (λ (k : ℕ). (0 * 256 + x % 256) * 2 ^ (8 * length xs) + number xs < k) (sym (byte_more (length xs)))
    (digits_lt (omega arith) (number_below xs)))

pub behind_below : (k a : ℕ) (xs : List ℕ) → a < 2 ^ k → number_from a xs < 2 ^ (k + 8 * length xs)
behind_below k a xs h =
    subst (λ (x : ℕ). x < 2 ^ (k + 8 * length xs)) (sym (number_behind a xs))
    (subst (λ (x : ℕ). a * 2 ^ (8 * length xs) + number xs < x) (sym (pow-add 2 k (8 * length xs))) (digits_lt h (number_below xs)))

rest_length : (n m : ℕ) (s : List ℕ) → n + m ≤ length s → length (take m (drop n s)) ≡ m
rest_length n m s h = length-take-le m (drop n s) (simp length-drop (omega arith))

pub number_split : (n m : ℕ) (s : List ℕ) → n + m ≤ length s
    → number (take (n + m) s) ≡ number (take n s) * 2 ^ (8 * m) + number (take m (drop n s))
number_split n m s h =
    ap number (take-add n m s)
    ∙ number_joined 0 (take n s) (take m (drop n s))
    ∙ number_behind (number (take n s)) (take m (drop n s))
    ∙ ap (λ (k : ℕ). number (take n s) * 2 ^ (8 * k) + number (take m (drop n s))) (rest_length n m s h)

-- the first of some bytes, as what stands above the rest
pub number_first : (n m : ℕ) (s : List ℕ) → n + m ≤ length s → number (take (n + m) s) / 2 ^ (8 * m) ≡ number (take n s)
number_first n m s h =
    ap (λ (x : ℕ). x / 2 ^ (8 * m)) (number_split n m s h)
    ∙ high (number (take n s)) (8 * m) (subst (λ (k : ℕ). number (take m (drop n s)) < 2 ^ (8 * k)) (rest_length n m s h) (number_below (take m (drop n s))))

single : (x : ℕ) → x < 256 → number (x ∷ []) ≡ x
unfolding number_from
single x h = omega arith

-- the bytes from a place on
pub byte_at : (at : ℕ) (s : List ℕ) → at < length s → get_or s at 0 < 256 → number (take 1 (drop at s)) ≡ get_or s at 0
byte_at at s h b = ap (λ (l : List ℕ). number (take 1 l)) (drop-cons s at 0 h) ∙ single (get_or s at 0) b

pub joined_at : (n m at : ℕ) (s : List ℕ) → at + (n + m) ≤ length s
    → number (take (n + m) (drop at s)) ≡ number (take n (drop at s)) * 2 ^ (8 * m) + number (take m (drop (at + n) s))
joined_at n m at s h =
    number_split n m (drop at s) (simp length-drop (omega arith))
    ∙ ap (λ (l : List ℕ). number (take n (drop at s)) * 2 ^ (8 * m) + number (take m l)) (drop-drop n at s)

-- An array of the n bytes from a place on: each byte of it stands behind the number of those before it.
module _ (n at : ℕ) (s xs : List ℕ) (fits : at + n ≤ length s) (bytes : (i : ℕ) → get_or s i 0 < 256)
    (same : xs ≡ take n (take (length s - at) (drop at s))) where
  place : (i : ℕ) → i < n → get_or xs i 0 ≡ get_or s (at + i) 0
  place i h =
      ap (λ (l : List ℕ). get_or l i 0) same
      ∙ get_or-take n (take (length s - at) (drop at s)) i 0 h
      ∙ get_or-take (length s - at) (drop at s) i 0 (omega arith)
      ∙ get_or-drop at s i 0

  pub one_more : (i : ℕ) → i < n → number (take (i + 1) (drop at s)) ≡ number (take i (drop at s)) * 256 + get_or xs i 0
  one_more i h =
      joined_at i 1 at s (omega arith)
      ∙ ap (λ (k : ℕ). number (take i (drop at s)) * 256 + k) (byte_at (at + i) s (omega arith) (bytes (at + i)) ∙ sym (place i h))

pub none_at : (at : ℕ) (s : List ℕ) → number (take 0 (drop at s)) ≡ 0
unfolding number_from
none_at at s = refl
