-- Document 01 for one message, over the definitions and the promises of `write` and `read`: what the writer answers, in the table's
-- numbers; demand 2, what was written is read and what was read is written; how many bytes go with an item; and more bytes change
-- nothing of what was decided. Each is shown in the file that its proof cites.
use Prim.Native.Nat.{ℕ, ◌+◌, ◌≤◌, ◌<◌}
use mathlib.Core.Bool.{true, false}
use mathlib.Core.List.{List, ◌++◌}
use mathlib.Core.Path.{◌≡◌}
use lib.ListN.{length, take, drop, get_or, take-append-drop}
use borrow.Author.Tests.{lt-ltb, le-ltb}
use Rattle.message.specs.Bytes.{payload_at, nak, writable}
use Rattle.message.specs.Items.{Item, damaged_header, forbidden, damaged_payload, message, decided, scan, part_with, payload_of}
use Rattle.std.specs.Prelude.{Result, Ok}
use Rattle.message.specs.Writing.{accepted, refused, written, placed}
use Rattle.message.specs.Promises.{answer_of, Wrote, scan_of}
use Rattle.message.specs.declared.Reading.{Reading}
use Rattle.message.specs.declared.WriteError.{WriteError}
use Rattle.message.proofs.Accepted.{says_7, says_6, says_length}
use Rattle.message.proofs.Headers.{nak_not_writable}
use Rattle.message.proofs.More as more
use Rattle.message.proofs.Removed.{removed}
use Rattle.message.proofs.RoundTrips as trips

-- "forbidden header, or NAK with SEQ not 0": a header that may not be written is refused with 7, whatever the room
pub forbidden_refused : (size place type seq len : ℕ) → writable type len seq ≡ false → written size place type seq len ≡ refused 7
forbidden_refused size place type seq len bad = says_7 size place type seq len bad

-- "place plus 10 + LEN past the buffer's end (after 7)": one that may be written is refused with 6
pub no_room_refused : (size place type seq len : ℕ) → writable type len seq ≡ true → size < place + (10 + len)
    → written size place type seq len ≡ refused 6
no_room_refused size place type seq len fine past =
    says_6 size place type seq len fine (lt-ltb size (place + (10 + len)) past)

-- "it answers the length written": 10 + LEN, where neither line refuses
pub length_answered : (size place type seq len : ℕ) → writable type len seq ≡ true → place + (10 + len) ≤ size
    → written size place type seq len ≡ accepted (10 + len)
length_answered size place type seq len fine room =
    says_length size place type seq len fine (le-ltb size (place + (10 + len)) room)

-- write then read: where `write` answered a length n, the first item from that place on is the message that was written, with
-- nothing dropped, exactly its n bytes removed and its payload, whatever stands after it
pub write_then_read : {n place type seq : ℕ} {payload entry exit : List ℕ}
    → Wrote (Ok n) place type seq (length payload) payload entry exit
    → (scan (drop place exit) ≡ decided (message type seq (length payload)) 0 n) × (payload_of (drop place exit) ≡ payload)
write_then_read wrote = trips.write_then_read wrote

-- the same of `write_around`, with the payload that stood there
pub write_around_then_read : {n place type seq len : ℕ} {entry exit : List ℕ}
    → Wrote (Ok n) place type seq len (payload_at place len entry) entry exit
    → (scan (drop place exit) ≡ decided (message type seq len) 0 n) × (payload_of (drop place exit) ≡ payload_at place len entry)
write_around_then_read wrote = trips.write_around_then_read wrote

-- read then write: of a message that was read, with SEQ 0 if it is a NAK, `write` answers the length and places the very bytes
-- that were read, where there is room for them
pub read_then_write : (xs : List ℕ) {type seq len d r place : ℕ} {entry exit : List ℕ} {answer : Result ℕ WriteError}
    → ((i : ℕ) → get_or xs i 0 < 256)
    → scan xs ≡ decided (message type seq len) d r → (type ≡ nak → seq ≡ 0) → place + r ≤ length entry
    → Wrote answer place type seq (length (payload_of xs)) (payload_of xs) entry exit
    → (answer_of answer ≡ accepted r) × (exit ≡ placed place (take r (drop d xs)) entry)
read_then_write xs small read zero room wrote = trips.read_then_write xs small read zero room wrote

-- the exception: a NAK with another SEQ can be read, and is refused with 7
pub nak_refused : (size place seq len : ℕ) → (seq ≡ 0 → ⊥) → written size place nak seq len ≡ refused 7
nak_refused size place seq len other = says_7 size place nak seq len (nak_not_writable len seq other)

-- the numbers and the part come from two calls: `payload` hands back the payload of what `read` found
pub read_then_payload : (xs : List ℕ) (reading : Reading) → scan_of reading ≡ scan xs → part_with (scan_of reading) xs ≡ payload_of xs
unfolding payload_of
read_then_payload xs reading h = rw h

-- "After 2, 3 and 5 only the two SYN bytes are removed": after 2, with a damaged header
pub damaged_header_removes_syn : (xs : List ℕ) {d r : ℕ} → scan xs ≡ decided damaged_header d r → r ≡ 2
damaged_header_removes_syn xs h = removed xs h

-- after 3, with a forbidden one
pub forbidden_removes_syn : (xs : List ℕ) {d r : ℕ} → scan xs ≡ decided forbidden d r → r ≡ 2
forbidden_removes_syn xs h = removed xs h

-- after 5, with a damaged payload
pub damaged_payload_removes_syn : (xs : List ℕ) {d r : ℕ} → scan xs ≡ decided damaged_payload d r → r ≡ 2
damaged_payload_removes_syn xs h = removed xs h

-- "after 6 the whole message"
pub message_removes_whole : (xs : List ℕ) {type seq len d r : ℕ} → scan xs ≡ decided (message type seq len) d r → r ≡ 10 + len
message_removes_whole xs h = removed xs h

-- more bytes at the end change nothing of what was decided
pub scan_more : (xs ys : List ℕ) {item : Item} {d r : ℕ} → scan xs ≡ decided item d r → scan (xs ++ ys) ≡ decided item d r
scan_more = more.scan_more

pub payload_more : (xs ys : List ℕ) {item : Item} {d r : ℕ} → scan xs ≡ decided item d r → payload_of (xs ++ ys) ≡ payload_of xs
payload_more = more.payload_of_more

-- so the shortest prefix that decides an item decides it for the whole
pub scan_prefix : (k : ℕ) (xs : List ℕ) {item : Item} {d r : ℕ} → scan (take k xs) ≡ decided item d r → scan xs ≡ decided item d r
scan_prefix k xs h = rw (take-append-drop k xs) at (more.scan_more (take k xs) (drop k xs) h)
