-- Laws of bytes placed in a buffer: its length, what a loan from the middle leaves, and neighbours. Every writer cites them.
use Prim.Native.Nat.{ℕ, ◌+◌, ◌-◌, ◌≤◌}
use mathlib.Core.List.{List, [], ◌++◌, append_assoc, append-nil}
use mathlib.Core.Path.{◌≡◌, refl, sym, ap, ◌∙◌}
use native.Mathlib.Nat.{add-zero, zero-add}
use native.Mathlib.Omega.{arith}
use lib.ListN.{length, take, drop, length-append, length-take, length-drop, take-append-drop, drop_of_length-le}
use lib.Seq.{take_all, take-nil, take-length, take_at, drop_at, drop-drop, take-add}
use borrow.Rule.Slice.PartMut.{put_mid}
use Rattle.message.specs.Writing.{placed}

-- what a loan from a place on lends, and the buffer when it is back
abbrev pub lent_from : ℕ → List ℕ → List ℕ
lent_from a l = take (length l - a) (drop a l)

abbrev pub given_back : ℕ → List ℕ → List ℕ → List ℕ
given_back a l x = put_mid a (length l - a) l x

-- a part from a place to the end is what is left after that place
pub tail : (a : ℕ) (l : List ℕ) → lent_from a l ≡ drop a l
tail a l = take_all (length l - a) (drop a l) (simp length-drop (omega arith))

-- a part of n bytes: nothing past the end, and all from a place on where there are no more
pub part_beyond : (n k : ℕ) (l : List ℕ) → length l ≤ k → [] ≡ take n (drop k l)
part_beyond n k l h = rw (drop_of_length-le l {i = k} h, take-nil n)

pub part_all : (n k : ℕ) (l : List ℕ) → length l ≤ k + n → lent_from k l ≡ take n (drop k l)
part_all n k l h = rw (tail k l, take_all n (drop k l) (simp length-drop (omega arith)))

-- the parts of a buffer in which bytes were placed
module _ (a : ℕ) (m l : List ℕ) (fits : a + length m ≤ length l) where
  pub length_placed : length (placed a m l) ≡ length l
  unfolding placed
  length_placed = simp (length-append, length-take, length-drop) (omega arith)

  pub from_placed : drop a (placed a m l) ≡ m ++ drop (a + length m) l
  unfolding placed
  from_placed = drop_at (take a l) (m ++ drop (a + length m) l) a (simp length-take (omega arith))

  pub after_placed : drop (a + length m) (placed a m l) ≡ drop (a + length m) l
  after_placed =
      sym (drop-drop (length m) a (placed a m l)) ∙ ap (drop (length m)) from_placed ∙ drop_at m (drop (a + length m) l)
      (length m) refl

  pub through_placed : take (a + length m) (placed a m l) ≡ take a l ++ m
  unfolding placed
  through_placed =
      ap (take (a + length m)) (sym (append_assoc (take a l) m (drop (a + length m) l)))
      ∙ take_at (take a l ++ m) (drop (a + length m) l) (a + length m) (simp (length-append, length-take) (omega arith))

  pub beyond_placed : (k : ℕ) → drop (a + length m + k) (placed a m l) ≡ drop (a + length m + k) l
  beyond_placed k = sym (drop-drop k (a + length m) (placed a m l)) ∙ ap (drop k) after_placed ∙ drop-drop k (a + length m) l

-- bytes placed in what a caller lent from the middle on
pub lent : (a i : ℕ) (m l : List ℕ) → a + i + length m ≤ length l
    → given_back a l (placed i m (lent_from a l)) ≡ placed (a + i) m l
unfolding placed
lent a i m l fits =
    let end : drop (length l - a) (drop a l) ≡ [] = drop_of_length-le (drop a l) {i = length l - a}
    (simp length-drop (omega arith)) in
    let sum : a + (i + length m) ≡ a + i + length m = omega arith in
    simp (tail a l, end, append-nil, append_assoc, take-add a i l, drop-drop (i + length m) a l, sum)

pub lent_front : (a : ℕ) (m l : List ℕ) → a + length m ≤ length l
    → given_back a l (placed 0 m (lent_from a l)) ≡ placed a m l
lent_front a m l fits = lent a 0 m l (omega arith) ∙ rw add-zero

-- bytes placed right after others
pub neighbours : (a : ℕ) (m n l : List ℕ) → a + length m + length n ≤ length l
    → placed (a + length m) n (placed a m l) ≡ placed a (m ++ n) l
unfolding placed
neighbours a m n l fits =
    let sum : a + length (m ++ n) ≡ a + length m + length n = simp length-append (omega arith) in
    rw (through_placed a m l (omega arith), beyond_placed a m l (omega arith) (length n), sum) (simp append_assoc)

-- the same at the front of a buffer
pub front : (m l : List ℕ) → m ++ drop (length m) l ≡ placed 0 m l
unfolding placed
front m l = rw (zero-add (length m))

-- bytes copied to the front
pub copied_front : (m n l x : List ℕ) → m ≡ n → x ≡ take (length m) m ++ drop (length m) l → x ≡ placed 0 n l
copied_front m n l x same copy = rw (copy, take-length m, same) (front n l)

-- bytes copied to the front of what was lent from a place on
pub copied : (a : ℕ) (m l x : List ℕ) → a + length m ≤ length l → x ≡ take (length m) m ++ drop (length m) (lent_from a l)
    → given_back a l x ≡ placed a m l
copied a m l x within copy = rw (copy, take-length m, front m (lent_from a l)) (lent_front a m l within)

pub neighbours_front : (m n l : List ℕ) → length m + length n ≤ length l → placed (length m) n (placed 0 m l) ≡ placed 0 (m ++ n) l
neighbours_front m n l fits =
    ap (λ (k : ℕ). placed k n (placed 0 m l)) (sym (zero-add (length m))) ∙ neighbours 0 m n l (omega arith)

-- bytes that stand in their place already
pub standing : (a n : ℕ) (l : List ℕ) → a + n ≤ length l → placed a (take n (drop a l)) l ≡ l
unfolding placed
standing a n l fits =
    let count : length (take n (drop a l)) ≡ n = simp (length-take, length-drop) (omega arith) in
    rw (count, ← drop-drop n a l, take-append-drop n (drop a l), take-append-drop a l)

pub after_standing : (a i : ℕ) (n l : List ℕ) → a + i + length n ≤ length l
    → placed (a + i) n l ≡ placed a (take i (drop a l) ++ n) l
after_standing a i n l fits =
    let count : length (take i (drop a l)) ≡ i = simp (length-take, length-drop) (omega arith) in
    rw (standing a i l (omega arith), count) at (neighbours a (take i (drop a l)) n l (omega arith))

-- two loans one after the other: from a place on, and from the end of the first bytes on
module _ (a k : ℕ) (m l x : List ℕ) (size : length m ≡ k) (first : x ≡ placed 0 m (lent_from a l)) where
  lent_first : a + k ≤ length l → given_back a l x ≡ placed a m l
  lent_first fits = rw first (lent_front a m l (omega arith))

  length_first : a + k ≤ length l → length (given_back a l x) ≡ length l
  length_first fits = ap length (lent_first fits) ∙ length_placed a m l (omega arith)

  -- the second places bytes at its front
  pub lent_twice : (n y : List ℕ) → a + k + length n ≤ length l
      → y ≡ placed 0 n (lent_from (a + k) (given_back a l x))
      → given_back (a + k) (given_back a l x) y ≡ placed a (m ++ n) l
  lent_twice n y fits second =
      let same = length_first (omega arith) in
      let step : placed (a + k) n (placed a m l) ≡ placed a (m ++ n) l = rw size at (neighbours a m n l (omega arith)) in
      rw (second, lent_front (a + k) n (given_back a l x) (omega arith), lent_first (omega arith)) step

  -- the second is lent what stood there before both
  pub lent_second : a + k ≤ length l
      → lent_from (a + k) (given_back a l x) ≡ drop (a + k) l
  lent_second fits =
      let step : drop (a + k) (placed a m l) ≡ drop (a + k) l = rw size at (after_placed a m l (omega arith)) in
      rw (tail (a + k) (given_back a l x), lent_first fits) step

  -- and places bytes after i of those
  pub lent_after : (i : ℕ) (n y : List ℕ) → a + k + i + length n ≤ length l
      → y ≡ placed i n (lent_from (a + k) (given_back a l x))
      → given_back (a + k) (given_back a l x) y
      ≡ placed a (m ++ (take i (drop (a + k) l) ++ n)) l
  lent_after i n y fits second =
      let same = length_first (omega arith) in
      let long : length (placed a m l) ≡ length l = length_placed a m l (omega arith) in
      let kept : drop (a + k) (placed a m l) ≡ drop (a + k) l = rw size at (after_placed a m l (omega arith)) in
      let count : length (take i (drop (a + k) l)) ≡ i = simp (length-take, length-drop) (omega arith) in
      let inner : placed (a + k + i) n (placed a m l) ≡ placed (a + k) (take i (drop (a + k) l) ++ n) (placed a m l) =
      rw kept at (after_standing (a + k) i n (placed a m l) (omega arith)) in
      let outer : placed (a + k) (take i (drop (a + k) l) ++ n) (placed a m l) ≡ placed a (m ++ (take i (drop (a + k) l) ++ n)) l =
      rw size at (neighbours a m (take i (drop (a + k) l) ++ n) l (simp length-append (omega arith))) in
      rw (second, lent (a + k) i n (given_back a l x) (omega arith), lent_first (omega arith)) (inner ∙ outer)
