-- What makes the numbers for C enough: they are document 01's, one tells a length from a refusal, two name the payload's part, and one tells
-- a position from none; and what C writes it reads, what it reads it writes. Each is shown in the file that its proof cites.
use Prim.Native.Nat.{ℕ, ◌+◌, ◌≤◌, ◌<◌}
use mathlib.Core.List.{List}
use mathlib.Core.Logic.{◌⊎◌}
use Rattle.std.specs.Prelude.{Some}
use mathlib.Core.Path.{◌≡◌, refl, sym}
use native.Mathlib.Omega.{arith}
use lib.ListN.{length, take, drop, get_or}
use Rattle.message.proofs.Accepted.{passed, refused_with}
use Rattle.message.specs.Bytes.{nak}
use Rattle.message.specs.Items.{scan, payload_of}
use Rattle.message.specs.Writing.{accepted, refused, written, placed}
use Rattle.audit.specs.Audit.{audit}
use Rattle.audit.proofs.Laws.{found_is_first}
use Rattle.c_api.specs.Numbers.{WroteNumber, numbers, numbers_of, place_of}
use Rattle.c_api.specs.Rows.{AllTold, readings, writings, auditings}
use Rattle.c_api.proofs.Rows as rows
use Rattle.c_api.proofs.RoundTrips as trips
use Rattle.c_api.proofs.Told as told

-- the seven numbers of `fizrahum_read`, of document 01's bytes: 0 for undecided, 2, 3, 5 and 6 for the rule that decided
pub readings_told : AllTold readings
readings_told = rows.readings_told

-- the number of `fizrahum_write`: a length, 6, 7
pub writings_told : AllTold writings
writings_told = rows.writings_told

-- the number of `fizrahum_audit`: a position, or how many IDs there are
pub auditings_told : AllTold auditings
auditings_told = rows.auditings_told

-- a length is 10 or more
pub length_from_10 : {n : ℕ} (s p t q len : ℕ) → written s p t q len ≡ accepted n → 10 ≤ n
length_from_10 s p t q len h = let a = passed s p t q len (sym h) in omega arith

-- a refusal is 7 or 6
pub refusal_7_or_6 : {n : ℕ} (s p t q len : ℕ) → written s p t q len ≡ refused n → (n ≡ 7) ⊎ (n ≡ 6)
refusal_7_or_6 s p t q len h = refused_with s p t q len (sym h)

-- so a number below 10 is a refusal, and leaves the buffer
pub refusal_leaves : {number place type seq : ℕ} {payload entry exit : List ℕ}
    → WroteNumber number place type seq payload entry exit → number < 10 → exit ≡ entry
refusal_leaves wrote below = trips.refusal_leaves wrote below

-- the place and the length name the payload, in the bytes that were read
pub payload_named : (xs : List ℕ) {i t q p n d r : ℕ} → numbers_of (scan xs) ≡ numbers i t q p n d r
    → take n (drop p xs) ≡ payload_of xs
payload_named xs h = told.payload_named xs h

-- the place lies within the bytes
pub place_within : (xs : List ℕ) → place_of (scan xs) ≤ length xs
place_within xs = told.place_within xs

-- write then read: where `fizrahum_write` answered a length, `fizrahum_read` from that place on tells the message that was written, rule 6,
-- with nothing dropped and exactly that length removed; its payload stands 8 bytes behind the place
pub write_then_read : {number place type seq : ℕ} {payload entry exit : List ℕ}
    → WroteNumber number place type seq payload entry exit → 10 ≤ number
    → (numbers_of (scan (drop place exit)) ≡ numbers 6 type seq 8 (length payload) 0 number)
    × (take (length payload) (drop 8 (drop place exit)) ≡ payload)
write_then_read wrote ten = trips.write_then_read wrote ten

-- read then write: of a message that was read, with SEQ 0 if it is a NAK, `fizrahum_write` answers the bytes removed and places the very
-- bytes that were read, where there is room for them
pub read_then_write : (xs : List ℕ) {type seq p len d r number place : ℕ} {entry exit : List ℕ}
    → ((i : ℕ) → get_or xs i 0 < 256)
    → numbers_of (scan xs) ≡ numbers 6 type seq p len d r → (type ≡ nak → seq ≡ 0) → place + r ≤ length entry
    → WroteNumber number place type seq (take len (drop p xs)) entry exit
    → (number ≡ r) × (exit ≡ placed place (take r (drop d xs)) entry)
read_then_write xs small read zero room wrote = trips.read_then_write xs small read zero room wrote

-- the exception: a NAK with another SEQ can be read, and is refused with 7; the buffer stays
pub nak_refused : {number place seq : ℕ} {payload entry exit : List ℕ}
    → WroteNumber number place nak seq payload entry exit → (seq ≡ 0 → ⊥) → (number ≡ 7) × (exit ≡ entry)
nak_refused wrote other = trips.nak_refused wrote refl other

-- a position that an audit finds is below the number of IDs; that number says that there is none
pub position_below : (r : ℕ) (ids : List ℕ) {p : ℕ} → audit r ids ≡ Some p → p < length ids
position_below r ids {p} h = (found_is_first r ids p h).within
