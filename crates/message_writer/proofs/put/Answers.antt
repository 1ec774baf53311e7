-- `message_writer::put` meets its contract: what is put around the payload covers the place where it was copied to.
use Prim.Native.Nat.{ℕ, ◌+◌, ◌-◌, ◌≤◌}
use mathlib.Core.List.{List, ◌++◌}
use mathlib.Core.Path.{◌≡◌, sym, ap, ◌∙◌}
use native.Mathlib.Omega.{arith}
use lib.ListN.{length, take, drop, length-append, length-take, length-drop}
use lib.Seq.{take_at}
use Rattle.message.specs.Bytes.{header_length, message, total, payload_at}
use Rattle.message.specs.Writing.{placed}
use Rattle.message.proofs.Buffer.{from_placed, beyond_placed, after_standing, copied}
use Rattle.message.proofs.Headers.{length_message}
use Rattle.message_writer.proofs.put.Goals as goal

-- more bytes placed where others were
again : (a : ℕ) (m n l : List ℕ) → a + length m ≤ length l → length m ≤ length n → placed a n (placed a m l) ≡ placed a n l
unfolding placed
again a m n l fits less =
    let before : take a (placed a m l) ≡ take a l = take_at (take a l) (m ++ drop (a + length m) l) a (simp length-take (omega arith)) in
    let sum : a + length n ≡ a + length m + (length n - length m) = omega arith in
    let behind : drop (a + length n) (placed a m l) ≡ drop (a + length n) l =
    ap (λ (k : ℕ). drop k (placed a m l)) sum ∙ beyond_placed a m l fits (length n - length m) ∙ ap (λ (k : ℕ). drop k l) (sym sum) in
    rw (before, behind)

-- the payload at its place, and then the message around it
covered : (t q a : ℕ) (p l : List ℕ) → a + total (length p) ≤ length l
    → placed a (message t q (payload_at a (length p) (placed (a + header_length) p l))) (placed (a + header_length) p l)
    ≡ placed a (message t q p) l
covered t q a p l fits =
    let there : payload_at a (length p) (placed (a + header_length) p l) ≡ p =
    ap (take (length p)) (from_placed (a + header_length) p l (omega arith)) ∙ take_at p (drop (a + header_length + length p) l) (length p) (omega arith) in
    let room : length (take header_length (drop a l)) ≡ header_length = simp (length-take, length-drop) (omega arith) in
    let long : length (take header_length (drop a l) ++ p) ≤ length (message t q p) =
    simp length-append (omega (arith, room, length_message t q p)) in
    rw (there, after_standing a header_length p l (omega arith))
    (again a (take header_length (drop a l) ++ p) (message t q p) l (simp length-append (omega (arith, room))) long)

pub returns : goal.returns
returns c =
    let a = c.args in
    let copy = copied (a.place + header_length) a.payload.now a.buffer.now _ (omega arith) c.copy.ensures.whole in
    rw (c.requires.0, copy) at c.put_around.ensures ∙ covered a.header.kind a.header.seq.0 a.place a.payload.now a.buffer.now (omega arith)
