-- The two round trips, from the promise of `write`: by `ReadWritten` and `WrittenRead`, at the place where the message stands.
use Prim.Native.Nat.{ℕ, ◌+◌, ◌≤◌, ◌<◌}
use mathlib.Core.Bool.{true}
use mathlib.Core.List.{List}
use mathlib.Core.Path.{◌≡◌, refl, ◌∙◌}
use native.Mathlib.Omega.{arith}
use lib.ListN.{length, take, drop, get_or, length-take, length-drop}
use borrow.Author.Tests.{le-ltb}
use Rattle.message.specs.Bytes as bytes
use Rattle.message.specs.Bytes.{payload_at, nak, total, allowed}
use Rattle.message.specs.Items.{message, decided, scan, payload_of}
use Rattle.std.specs.Prelude.{Result, Ok}
use Rattle.message.specs.Writing.{accepted, written, placed}
use Rattle.message.specs.Promises.{answer_of, Wrote}
use Rattle.message.specs.declared.WriteError.{WriteError}
use Rattle.message.proofs.Accepted.{passed, says_length}
use Rattle.message.proofs.Buffer.{from_placed}
use Rattle.message.proofs.Found.{message_at}
use Rattle.message.proofs.Headers.{writable_allowed, allowed_writable, length_message}
use Rattle.message.proofs.ReadWritten.{scan_message, payload_of_message}
use Rattle.message.proofs.WrittenRead.{written_read, payload_length}

-- either writer: LEN is the payload's length
written_read_back : {n place type seq len : ℕ} {payload entry exit : List ℕ}
    → Wrote (Ok n) place type seq len payload entry exit → length payload ≡ len
    → (scan (drop place exit) ≡ decided (message type seq len) 0 n) × (payload_of (drop place exit) ≡ payload)
written_read_back {n} {place} {type} {seq} {len} {payload} {entry} {exit} wrote size =
    let p = passed (length entry) place type seq len wrote.answers in
    let fine : allowed type (length payload) ≡ true = rw size (writable_allowed type len seq p.sound) in
    let there = wrote.leaves ∙ refl in
    let fits : place + length (bytes.message type seq payload) ≤ length entry =
    rw (length_message type seq payload, size) p.room in
    rw (there, from_placed place (bytes.message type seq payload) entry fits, p.count, ← size)
    (scan_message type seq payload _ fine, payload_of_message type seq payload _ fine)

pub write_then_read : {n place type seq : ℕ} {payload entry exit : List ℕ}
    → Wrote (Ok n) place type seq (length payload) payload entry exit
    → (scan (drop place exit) ≡ decided (message type seq (length payload)) 0 n) × (payload_of (drop place exit) ≡ payload)
write_then_read wrote = written_read_back wrote refl

pub write_around_then_read : {n place type seq len : ℕ} {entry exit : List ℕ}
    → Wrote (Ok n) place type seq len (payload_at place len entry) entry exit
    → (scan (drop place exit) ≡ decided (message type seq len) 0 n) × (payload_of (drop place exit) ≡ payload_at place len entry)
write_around_then_read {n} {place} {type} {seq} {len} {entry} wrote =
    let p = passed (length entry) place type seq len wrote.answers in
    written_read_back wrote (simp (length-take, length-drop) (omega arith))

-- of a message that was read the writer answers the length, where there is room for it
pub read_is_accepted : (xs : List ℕ) {type seq len d r : ℕ} (size place : ℕ) → scan xs ≡ decided (message type seq len) d r
    → (type ≡ nak → seq ≡ 0) → place + r ≤ size → written size place type seq (length (payload_of xs)) ≡ accepted r
read_is_accepted xs {type} {seq} {len} {d} {r} size place h zero room =
    let m = message_at xs h in
    rw (payload_length xs h, m.removed)
    (says_length size place type seq len (allowed_writable type len seq m.fine zero)
    (le-ltb size (place + total len) (omega arith)))

pub read_then_write : (xs : List ℕ) {type seq len d r place : ℕ} {entry exit : List ℕ} {answer : Result ℕ WriteError}
    → ((i : ℕ) → get_or xs i 0 < 256)
    → scan xs ≡ decided (message type seq len) d r → (type ≡ nak → seq ≡ 0) → place + r ≤ length entry
    → Wrote answer place type seq (length (payload_of xs)) (payload_of xs) entry exit
    → (answer_of answer ≡ accepted r) × (exit ≡ placed place (take r (drop d xs)) entry)
read_then_write xs {place = place} {entry = entry} small h zero room wrote =
    let answers = wrote.answers ∙ read_is_accepted xs (length entry) place h zero room in
    (answers, wrote.leaves ∙ rw (answers, written_read xs small h))
