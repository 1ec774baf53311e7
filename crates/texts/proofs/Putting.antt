-- Texts put one behind the other, numbers and bytes among them.
use Prim.Native.Nat.{ℕ, zero, suc, ◌+◌, ◌-◌, ◌*◌, ◌/◌, ◌%◌, ◌^◌, ◌≤◌, ◌<◌}
use mathlib.Core.Bool.{Bool, true, false}
use mathlib.Core.List.{List, [], ◌∷◌, ◌++◌, append_assoc, append-nil}
use mathlib.Core.Path.{◌≡◌, refl, ap, ◌∙◌}
use native.Mathlib.Nat.{pow-suc, one-le-pow, pow-le-pow_right}
use native.Mathlib.Omega.{arith}
use lib.Dec.{leb, ltb}
use lib.ListN.{length, take, drop, get_or, set, length-append, length-set, drop_of_length-le}
use lib.Seq.{take-suc-set}
use borrow.Author.Tests.{lt-ltb, le-ltb, leb-true, leb-false}
use Rattle.std.proofs.lemmas.List.{drop_more}
use Rattle.io.specs.Digits.{hex_digit_ascii, last_digits, IsDigitCount}
use Rattle.texts.specs.Text.{ascii, decimal_in, decimal, digits_max, short_limit, pair, pairs, shown_as, Puts}

-- one text behind another
pub joined : (m n l x y : List ℕ) → x ≡ l ++ m → y ≡ x ++ n → y ≡ l ++ (m ++ n)
joined m n l x y first second = second ∙ ap (λ (z : List ℕ). z ++ n) first ∙ append_assoc l m n

-- the same text in a larger room
pub wider : {k j : ℕ} {m l x : List ℕ} → k ≤ j → Puts k m l x → Puts j m l x
wider more p = record { within = omega (arith, p.within); reads = p.reads }

-- the fewest digits that hold a number are its decimal ones
as_decimal : (k f n : ℕ) → k ≤ f → 1 ≤ k → n < 10 ^ k → (1 < k → 10 ^ (k - 1) ≤ n) → last_digits 10 k n ≡ decimal_in f n
unfolding decimal_in
as_decimal zero f n fits some under over = let z : ◌≡◌ {A = ℕ} 0 1 = omega arith in cc
as_decimal (suc zero) zero n fits some under over = let z : ◌≡◌ {A = ℕ} 0 1 = omega arith in cc
as_decimal (suc zero) (suc f) n fits some under over =
    let small : n < 10 = omega (arith, under) in
    let same : n % 10 ≡ n = omega arith in
    rw (same, lt-ltb n 10 small)
as_decimal (suc (suc k)) zero n fits some under over = let z : ◌≡◌ {A = ℕ} 0 1 = omega arith in cc
as_decimal (suc (suc k)) (suc f) n fits some under over =
    let less : suc (suc k) - 1 ≡ suc k = omega arith in
    let power : 10 ^ suc k ≤ n = rw less at (over (omega arith)) in
    let large : 10 ≤ n = omega (arith, power, pow-suc 10 k, one-le-pow k 10 (omega arith)) in
    rw (le-ltb n 10 large)
    (ap (λ (z : List ℕ). z ++ (hex_digit_ascii (n % 10) ∷ []))
    (as_decimal (suc k) f (n / 10) (omega arith) (omega arith) (omega (arith, under, pow-suc 10 (suc k)))
    (λ h. let one : suc k - 1 ≡ k = omega arith in rw one (omega (arith, power, pow-suc 10 k)))))

-- a number of 64 bits has at most 20 digits
few_digits_by : (k n : ℕ) (b : Bool) → leb k digits_max ≡ b → IsDigitCount 10 1 n k → n < 2 ^ 64 → k ≤ digits_max
few_digits_by k n true test few small = leb-true k digits_max test
few_digits_by k n false test few small =
    let more : digits_max < k = leb-false k digits_max test in
    let power : 10 ^ 20 ≤ 10 ^ (k - 1) = pow-le-pow_right (omega arith) {i = 20} {j = k - 1} (omega arith) in
    omega (arith, power, few.2 (omega arith))

-- the digits that the kit writes are the decimal ones
pub digits_of : (k n : ℕ) → IsDigitCount 10 1 n k → n < 2 ^ 64 → last_digits 10 k n ≡ decimal n
digits_of k n few small = as_decimal k digits_max n (few_digits_by k n (leb k digits_max) refl few small) few.0 few.1 few.2

-- a short number's digits: one, two or three
pub one_digit : (n : ℕ) → n < 10 → decimal n ≡ hex_digit_ascii n ∷ []
unfolding decimal_in
one_digit n small = rw (lt-ltb n 10 small)

pub two_digits : (n : ℕ) → 10 ≤ n → n < 100 → decimal n ≡ hex_digit_ascii (n / 10) ∷ hex_digit_ascii (n % 10) ∷ []
unfolding decimal_in
two_digits n more small = rw (le-ltb n 10 more, lt-ltb (n / 10) 10 (omega arith))

pub three_digits : (n : ℕ) → 100 ≤ n → n < short_limit
    → decimal n ≡ hex_digit_ascii (n / 100) ∷ hex_digit_ascii (n / 10 % 10) ∷ hex_digit_ascii (n % 10) ∷ []
unfolding decimal_in
three_digits n more small =
    let hundreds : n / 10 / 10 ≡ n / 100 = omega arith in
    rw (le-ltb n 10 (omega arith), le-ltb (n / 10) 10 (omega arith), hundreds, lt-ltb (n / 100) 10 (omega arith))

-- a number has no more digits than its definition goes through
digits_by : (k n : ℕ) (b : Bool) → ltb n 10 ≡ b → length (decimal_in k (n / 10)) ≤ k → length (decimal_in (suc k) n) ≤ suc k
unfolding decimal_in
digits_by k n true test rest = rw test (omega arith)
digits_by k n false test rest = rw (test, length-append) (omega (arith, rest))

pub digits_within : (k n : ℕ) → length (decimal_in k n) ≤ k
unfolding decimal_in
digits_within zero n = omega arith
digits_within (suc k) n = digits_by k n (ltb n 10) refl (digits_within k (n / 10))

-- two digits set one behind the other
pair_set : (l : List ℕ) (at a b : ℕ) → at + 2 ≤ length l
    → take (at + 2) (set (set l at a) (at + 1) b) ≡ take at l ++ (a ∷ b ∷ [])
pair_set l at a b fits =
    let two : at + 2 ≡ suc (at + 1) = omega arith in
    let one : at + 1 ≡ suc at = omega arith in
    rw (two, take-suc-set (set l at a) (at + 1) b (simp length-set (omega arith)), one, take-suc-set l at a (omega arith))
    (append_assoc (take at l) (a ∷ []) (b ∷ []))

-- the pair of one more byte put behind those so far, as the invariant of a loop over the bytes, and the end of it
pub pairs_step : (s : List ℕ) (i : ℕ) (l x y : List ℕ) → i < length s → y ≡ x ++ pair (get_or s i 0) → x ++ pairs (drop i s) ≡ l
    → y ++ pairs (drop (i + 1) s) ≡ l
unfolding pairs
pairs_step s i l x y within put so_far =
    rw (put, append_assoc x (pair (get_or s i 0)) (pairs (drop (i + 1) s))) (rw (drop_more s i 0 within) at so_far)

pub pairs_end : (s : List ℕ) (i : ℕ) (l x : List ℕ) → length s ≤ i → x ++ pairs (drop i s) ≡ l → x ≡ l
unfolding pairs
pairs_end s i l x over so_far = rw (drop_of_length-le s {i = i} over, append-nil) at so_far

-- the same where its digits are set in an array
pub pairs_set_step : (s d : List ℕ) (i : ℕ) (l : List ℕ) → i < length s → 2 * i + 2 ≤ length d → take (2 * i) d ++ pairs (drop i s) ≡ l
    → take (2 * (i + 1)) (set (set d (2 * i) (hex_digit_ascii (get_or s i 0 / 16))) (2 * i + 1) (hex_digit_ascii (get_or s i 0 % 16)))
    ++ pairs (drop (i + 1) s)
    ≡ l
pairs_set_step s d i l within fits so_far =
    let next : 2 * (i + 1) ≡ 2 * i + 2 = omega arith in
    let put = pair_set d (2 * i) (hex_digit_ascii (get_or s i 0 / 16)) (hex_digit_ascii (get_or s i 0 % 16)) fits in
    rw next (pairs_step s i l (take (2 * i) d) _ within put so_far)

pub pairs_set_end : (s d : List ℕ) (i : ℕ) → i ≡ length s → take (2 * i) d ++ pairs (drop i s) ≡ pairs s → take (2 * length s) d ≡ pairs s
pairs_set_end s d i over so_far = rw over at (pairs_end s i (pairs s) (take (2 * i) d) (omega (arith, over)) so_far)

-- one more part put, as the invariant of the loop over them
pairs_append : (s t : List ℕ) → pairs (s ++ t) ≡ pairs s ++ pairs t
unfolding pairs
pairs_append [] t = refl
pairs_append (b ∷ s) t = ap (λ (z : List ℕ). pair b ++ z) (pairs_append s t)

pub parts_step : (part d s t l x y : List ℕ) → d ≡ pairs part → y ≡ x ++ d → s ≡ part ++ t → x ++ pairs s ≡ l → y ++ pairs t ≡ l
parts_step part d s t l x y digits put is so_far =
    rw (put, digits, append_assoc x (pairs part) (pairs t)) (rw (is, pairs_append part t) at so_far)

-- bytes shown: none, and the end of some
pub shown_none : (s : List ℕ) → length s ≡ 0 → shown_as s ≡ ascii "-"
unfolding shown_as
shown_none [] none = refl
shown_none (b ∷ s) none = let z : ◌≡◌ {A = ℕ} 0 1 = omega arith in cc

pub shown_end : (s rest l x : List ℕ) → 0 < length s → length rest ≡ 0 → x ++ pairs rest ≡ l ++ pairs s → x ≡ l ++ shown_as s
unfolding shown_as pairs
shown_end [] rest l x some none so_far = let z : ◌≡◌ {A = ℕ} 0 1 = omega (arith, some) in cc
shown_end (b ∷ s) [] l x some none so_far = rw append-nil at so_far
shown_end (b ∷ s) (r ∷ rest) l x some none so_far = let z : ◌≡◌ {A = ℕ} 0 1 = omega (arith, none) in cc
