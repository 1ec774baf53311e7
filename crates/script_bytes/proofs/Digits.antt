-- The hexadecimal digits of a script, one after the other.
use Prim.Native.Nat.{ℕ, ◌+◌, ◌-◌, ◌*◌, ◌/◌, ◌≤◌, ◌<◌}
use mathlib.Core.List.{List, [], ◌∷◌, ◌++◌, append-nil}
use mathlib.Core.Path.{◌≡◌, refl}
use native.Mathlib.Numerals.{add-one}
use native.Mathlib.Omega.{arith}
use lib.ListN.{length, take, get_or, set}
use lib.Seq.{take-suc-set, append_snoc}
use borrow.Author.Tests.{le-leb, lt-leb}
use Rattle.script_bytes.specs.Reading.{hex_value, bytes_of}

-- a digit up to 9, and one from a to f
pub hex_low : (d : ℕ) → d ≤ 57 → hex_value d ≡ d - 48
unfolding hex_value
hex_low d low = rw (le-leb d 57 low)

pub hex_high : (d : ℕ) → 57 < d → hex_value d ≡ d - 87
unfolding hex_value
hex_high d high = rw (lt-leb d 57 high)

-- one more pair
pub bytes_next : (pair t : List ℕ) → 2 ≤ length pair → length pair < 3
    → bytes_of (pair ++ t) ≡ (hex_value (get_or pair 0 0) * 16 + hex_value (get_or pair 1 0)) ∷ bytes_of t
unfolding bytes_of
bytes_next [] t some few = let z : ◌≡◌ {A = ℕ} 0 1 = omega arith in cc
bytes_next (h ∷ []) t some few = let z : ◌≡◌ {A = ℕ} 0 1 = omega arith in cc
bytes_next (h ∷ l ∷ []) t some few = refl
bytes_next (h ∷ l ∷ x ∷ s) t some few = let z : ◌≡◌ {A = ℕ} 0 1 = omega arith in cc

-- a pair read, as the invariant of the loop over pairs
pub bytes_step : (n h l : ℕ) (pair t s all b : List ℕ) → n < length b → 2 ≤ length pair → length pair < 3 → s ≡ pair ++ t
    → h ≡ hex_value (get_or pair 0 0) → l ≡ hex_value (get_or pair 1 0)
    → take n b ++ bytes_of s ≡ bytes_of all → take (n + 1) (set b n (h * 16 + l)) ++ bytes_of t ≡ bytes_of all
bytes_step n h l pair t s all b within some few is high low inv =
    rw (add-one, take-suc-set b n (h * 16 + l) within, append_snoc (take n b) (h * 16 + l) (bytes_of t))
    (rw (high, low, ← bytes_next pair t some few, ← is) inv)

-- no more pairs: what was read is as long as half of the digits
bytes_none : (s : List ℕ) → length s ≡ 0 → bytes_of s ≡ []
unfolding bytes_of
bytes_none [] none = refl
bytes_none (h ∷ s) none = let z : ◌≡◌ {A = ℕ} 0 1 = omega arith in cc

pub bytes_end : (i : ℕ) (rest all b : List ℕ) → length rest ≡ 0 → 2 * i + length rest ≡ length all → take i b ++ bytes_of rest ≡ bytes_of all
    → take (length all / 2) b ≡ bytes_of all
bytes_end i rest all b none size inv =
    let half : length all / 2 ≡ i = omega (arith, none, size) in
    rw half (rw (bytes_none rest none, append-nil) at inv)
