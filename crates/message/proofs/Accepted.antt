-- What each answer of the writer tells: an accepted message fits, and a refusal has one of two numbers and leaves the buffer.
use Prim.Native.Nat.{ℕ, ◌+◌, ◌≤◌}
use mathlib.Core.Bool.{Bool, true, false, not, cond as if}
use mathlib.Core.Logic.{◌⊎◌, inl, inr}
use mathlib.Core.Path.{◌≡◌, refl}
use native.Mathlib.Omega.{arith}
use lib.Dec.{ltb}
use borrow.Author.Tests.{ltb-false}
use Rattle.message.specs.Bytes.{max_len, total, writable}
use Rattle.message.specs.Writing.{forbidden_header, no_room, accepted, refused, written}
use Rattle.message.specs.Promises.{answer_of}
use Rattle.std.specs.Prelude.{Result, Ok}
use Rattle.message.specs.declared.WriteError.{WriteError}
use Rattle.message.proofs.Headers.{writable_short}

-- an accepted message passed both tests, and the length is its own
pub record Passed (n size place type seq len : ℕ) : Type 0 where
  pub sound : writable type len seq ≡ true
  pub room : place + total len ≤ size
  pub count : n ≡ total len

tests : (w past : Bool) (n k : ℕ) → accepted n ≡ if (not w) (refused forbidden_header) (if past (refused no_room) (accepted k))
    → (w ≡ true) × ((past ≡ false) × (n ≡ k))
tests true false n k h = (refl, (refl, cc))
tests true true n k h = let z : ◌≡◌ {A = ℕ} 0 1 = cc in absurd (omega arith)
tests false past n k h = let z : ◌≡◌ {A = ℕ} 0 1 = cc in absurd (omega arith)

pub passed : {n : ℕ} (s p t q len : ℕ) → accepted n ≡ written s p t q len → Passed n s p t q len
unfolding written
passed {n} s p t q len h =
    let both = tests (writable t len q) (ltb s (p + total len)) n (total len) h in
    record { sound = both.0; room = ltb-false s (p + total len) both.1.0; count = both.1.1 }

-- so it meets what the functions below the writer ask
pub fitting : (r : Result ℕ WriteError) (n s p t q len : ℕ) → r ≡ Ok n → answer_of r ≡ written s p t q len
    → (len ≤ max_len) × (p + total len ≤ s)
fitting r n s p t q len told h =
    let t = passed {n = n} s p t q len (rw told at h) in (writable_short _ len _ t.sound, t.room)

-- the answers of `written`, from the two tests
pub says_7 : (s p t q len : ℕ) → writable t len q ≡ false → written s p t q len ≡ refused forbidden_header
unfolding written
says_7 s p t q len h = rw h

pub says_6 : (s p t q len : ℕ) → writable t len q ≡ true → ltb s (p + total len) ≡ true
    → written s p t q len ≡ refused no_room
unfolding written
says_6 s p t q len h past = rw (h, past)

pub says_length : (s p t q len : ℕ) → writable t len q ≡ true → ltb s (p + total len) ≡ false
    → written s p t q len ≡ accepted (total len)
unfolding written
says_length s p t q len h room = rw (h, room)

-- a refusal's number is one of the table's two
number : (w past : Bool) (n k : ℕ) → refused n ≡ if (not w) (refused forbidden_header) (if past (refused no_room) (accepted k))
    → (n ≡ forbidden_header) ⊎ (n ≡ no_room)
number true false n k h = let z : ◌≡◌ {A = ℕ} 0 1 = cc in absurd (omega arith)
number true true n k h = inr cc
number false past n k h = inl cc

pub refused_with : {n : ℕ} (s p t q len : ℕ) → refused n ≡ written s p t q len → (n ≡ forbidden_header) ⊎ (n ≡ no_room)
unfolding written
refused_with {n} s p t q len h = number (writable t len q) (ltb s (p + total len)) n (total len) h
