-- A part of a buffer, and the buffer with that part moved to its front.
use Prim.Native.Nat.{ℕ, ◌+◌, ◌≤◌}
use mathlib.Core.List.{List}
use mathlib.Core.Path.{◌≡◌}
use native.Mathlib.Nat.{zero-add}
use native.Mathlib.Omega.{arith}
use lib.ListN.{length, take, drop, length-drop}
use lib.Seq.{length-take-le}
pub use Rattle.std.proofs.lemmas.List.{drop-take as drop_take}
use Rattle.message.specs.Writing.{placed}
use Rattle.message.proofs.Buffer.{length_placed, through_placed}

-- how long a part is
pub length_part : (a n : ℕ) (l : List ℕ) → a + n ≤ length l → length (take n (drop a l)) ≡ n
length_part a n l within = length-take-le n (drop a l) (rw (length-drop a l) (omega arith))

-- a buffer whose first n bytes are those from a place on
abbrev pub moved : ℕ → ℕ → List ℕ → List ℕ
moved from n l = placed 0 (take n (drop from l)) l

pub length_moved : (from n : ℕ) (l : List ℕ) → from + n ≤ length l → length (moved from n l) ≡ length l
length_moved from n l within = length_placed 0 (take n (drop from l)) l (omega (arith, length_part from n l within))

-- where that part stands now
pub front_moved : (from n : ℕ) (l : List ℕ) → from + n ≤ length l → take n (moved from n l) ≡ take n (drop from l)
front_moved from n l within =
    let part = take n (drop from l) in
    let size = length_part from n l within in
    rw (zero-add (length part), size) at (through_placed 0 part l (omega (arith, size)))
