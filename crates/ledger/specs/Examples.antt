-- Document 01, "Bench examples": the fourteen as one table.
use Rattle.std.specs.Prelude.{ℕ, ◌-◌, false, List, [], ◌∷◌, ◌++◌, ◌≡◌, length, take, replicate}
use Rattle.std.proofs.Math.Option.{Option, none, some}
use Rattle.checksum.specs.Checksum.{checksum_of}
use Rattle.message.specs.Bytes.{message, total, max_len, ack, nak, data_seq}
use Rattle.message.specs.Items as items
use Rattle.message.specs.Items.{damaged_payload}
use Rattle.line.specs.Receiving.{more, item}
use Rattle.line.specs.Receiving as line
use Rattle.command.specs.Payload.{Fields, max_data, payload}
use Rattle.link.specs.SequenceIds.{first_seq}
use Rattle.link.specs.Repeats.{none_seen}
use Rattle.ledger.specs.Parts.{live_max, Ledger, fresh}
use Rattle.ledger.specs.Answers.{Cause, acknowledged, no_acknowledgement, Word, no_word, stray, Ending, Poll, sent, ended, quiet, Answer, refused, submitted, received, polled}
use Rattle.ledger.specs.Calls.{Call, submit, receive, poll}
use Rattle.ledger.specs.Runs.{open_for, step}

-- a call, and what it is to come to: the answer and the lent buffers afterwards
pub record Row : Type 0 where
  pub call : Call
  pub answer : Answer
  pub buffers : List (List ℕ)

-- an example: the checksum of bytes; the bytes of a message; what open answers and hands back; or calls one after another from a
-- ledger, and how many bytes are held in the end
pub data Example : Type 0 where
  checksum : (bytes : List ℕ) (value : ℕ) → Example
  written : (type seq : ℕ) (payload bytes : List ℕ) → Example
  opening : (given : ℕ) → Answer → Ledger → Example
  calls : (from : Ledger) (rows : List Row) (held : ℕ) → Example

-- the calls of rows come to what the rows say
unfoldable pub Agrees : Ledger → List Row → (held : ℕ) → Type 0
Agrees l [] held = length l.held ≡ held
Agrees l (row ∷ rows) held =
    let d = step live_max l row.call in (d.answer ≡ row.answer) × (d.buffers ≡ row.buffers) × Agrees d.next rows held

-- an example is true
unfoldable pub IsTrue : Example → Type 0
IsTrue (checksum bytes value) = checksum_of bytes ≡ value
IsTrue (written type seq payload bytes) = message type seq payload ≡ bytes
IsTrue (opening given a l) = ((open_for given).answer ≡ a) × ((open_for given).next ≡ l)
IsTrue (calls from rows held) = Agrees from rows held

unfoldable pub AreTrue : List Example → Type 0
AreTrue [] = Unit
AreTrue (x ∷ xs) = IsTrue x × AreTrue xs

-- buffers of the length that the table asks for: with zeros, and with bytes at the front of them
abbrev pub zeros : ℕ → List ℕ
zeros n = replicate n 0

abbrev pub front : (n : ℕ) → List ℕ → List ℕ
front n bytes = bytes ++ zeros (n - length bytes)

-- the command of example 6, here with any data, no response wanted
abbrev pub fields : Fields
fields = record { tc = 3; tid = 1; sid = 0; iid = 1; cid = 1 }

abbrev pub submits : (bytes : List ℕ) (clock : ℕ) → Answer → Row
submits bytes clock a = record { call = submit fields bytes false clock; answer = a; buffers = [] }

-- a poll that puts bytes into its output
abbrev pub polls : (clock : ℕ) → Poll → (bytes : List ℕ) → Row
polls clock p bytes = record {
  call = poll (zeros (total max_len)) clock;
  answer = polled p;
  buffers = front (total max_len) bytes ∷ [];
}

-- a receive that takes all its bytes, puts a reply and leaves the data buffer
abbrev pub receives : (bytes : List ℕ) (clock : ℕ) → line.Answer → Word → Option Ending → (reply : List ℕ) → Row
receives bytes clock i word ending reply = record {
  call = receive bytes (zeros (total 0)) (zeros max_data) clock;
  answer = received (record { item = i; word = word; taken = length bytes; replied = length reply; ending = ending });
  buffers = front (total 0) reply ∷ zeros max_data ∷ [];
}

-- the bytes of examples 3, 4, 5 and 6
abbrev pub case_3 : List ℕ
case_3 = 0xAA ∷ 0x55 ∷ 0x40 ∷ 0x00 ∷ 0x00 ∷ 0x00 ∷ 0x5C ∷ 0xEA ∷ 0xFF ∷ 0xFF ∷ []

abbrev pub case_4 : List ℕ
case_4 = 0xAA ∷ 0x55 ∷ 0x40 ∷ 0x00 ∷ 0x00 ∷ 0xFF ∷ 0xAC ∷ 0xF4 ∷ 0xFF ∷ 0xFF ∷ []

abbrev pub case_5 : List ℕ
case_5 = 0xAA ∷ 0x55 ∷ 0x04 ∷ 0x00 ∷ 0x00 ∷ 0x00 ∷ 0x31 ∷ 0x4E ∷ 0xFF ∷ 0xFF ∷ []

abbrev pub case_6 : List ℕ
case_6 =
    0xAA ∷ 0x55 ∷ 0x80 ∷ 0x08 ∷ 0x00 ∷ 0x00 ∷ 0x59 ∷ 0xF0
    ∷ 0x80 ∷ 0x03 ∷ 0x01 ∷ 0x00 ∷ 0x01 ∷ 0x27 ∷ 0x00 ∷ 0x01 ∷ 0x5E ∷ 0x34 ∷ []

-- "the ASCII digits 123456789"
abbrev pub digits : List ℕ
digits = 0x31 ∷ 0x32 ∷ 0x33 ∷ 0x34 ∷ 0x35 ∷ 0x36 ∷ 0x37 ∷ 0x38 ∷ 0x39 ∷ []

-- an ACK and a NAK as they are read
abbrev pub ack_item : line.Answer
ack_item = item (items.message ack 0 0)

abbrev pub nak_item : line.Answer
nak_item = item (items.message nak 0 0)

abbrev pub ends_by : (id : ℕ) → Cause → Ending
ends_by id cause = record { id = id; cause = cause }

-- the ledger for R = 255 whose next request ID is 65535
abbrev pub next_is_last : Ledger
next_is_last = record { reserved = 255; clock = 0; next_seq = first_seq; next_id = 65535; seen = none_seen; live = []; held = [] }

-- three are live, for R = 38
abbrev pub three_live : List Row
three_live = submits [] 0 (submitted 39) ∷ submits [] 0 (submitted 40) ∷ submits [] 0 (submitted 41) ∷ []

-- the calls of examples 10 to 14
abbrev pub calls_10 : List Row
calls_10 =
    submits [] 0 (submitted 39)
    ∷ polls 0 (sent 18) case_6
    ∷ polls 0 (quiet (some 1000)) []
    ∷ polls 999 (quiet (some 1)) []
    ∷ polls 1000 (sent 18) case_6
    ∷ polls 2000 (sent 18) case_6
    ∷ polls 3000 (ended (ends_by 39 no_acknowledgement)) []
    ∷ []

abbrev pub calls_11 : List Row
calls_11 =
    submits [] 0 (submitted 39)
    ∷ polls 0 (sent 18) case_6
    ∷ polls 1000 (sent 18) case_6
    ∷ polls 2000 (sent 18) case_6
    ∷ receives case_5 2005 nak_item no_word none []
    ∷ polls 2005 (ended (ends_by 39 no_acknowledgement)) []
    ∷ []

abbrev pub calls_12 : List Row
calls_12 =
    submits [] 0 (submitted 65535)
    ∷ polls 0 (sent 18) (message data_seq 0 (payload fields 65535 []))
    ∷ receives case_3 0 ack_item no_word (some (ends_by 65535 acknowledged)) []
    ∷ submits [] 0 (submitted 256)
    ∷ []

abbrev pub calls_13 : List Row
calls_13 =
    three_live
    ++ (submits [] 0 (refused 5)
    ∷ polls 0 (sent 18) case_6
    ∷ receives case_3 0 ack_item no_word (some (ends_by 39 acknowledged)) []
    ∷ submits [] 0 (submitted 42)
    ∷ [])

abbrev pub calls_14 : List Row
calls_14 = three_live ++ (submits (zeros 249) 0 (refused 4) ∷ [])

-- the fourteen
abbrev pub table : List Example
table =
    -- 1. "Checksum of no bytes: 0xFFFF."
    checksum [] 0xFFFF
    -- 2. "Of the ASCII digits 123456789: 0x29B1."
    ∷ checksum digits 0x29B1
    -- 3. "ACK, SEQ 0"
    ∷ written ack 0 [] case_3
    -- 4. "ACK, SEQ 255"
    ∷ written ack 255 [] case_4
    -- 5. "NAK"
    ∷ written nak 0 [] case_5
    -- 6. "R = 38, first request, TC 3, TID 1, SID 0, IID 1, CID 1, no data"
    ∷ calls (fresh 38) (submits [] 0 (submitted 39) ∷ polls 0 (sent 18) case_6 ∷ []) 0
    -- 7. "00 AA then case 3: one ACK, 12 taken."
    ∷ calls (fresh 38) (receives (0x00 ∷ 0xAA ∷ case_3) 0 ack_item stray none [] ∷ []) 0
    -- 8. "First 9 bytes of case 3: *more*, 9 held."
    ∷ calls (fresh 38) (receives (take 9 case_3) 0 more no_word none [] ∷ []) 9
    -- 9. "Case 3 with last byte FE: damaged payload, reply case 5, 8 held."
    ∷ calls (fresh 38) (receives (take 9 case_3 ++ (0xFE ∷ [])) 0 (item damaged_payload) no_word none case_5 ∷ []) 8
    -- 10. "Accepted at 0, polls at 0, 0, 999, 1000, 2000, 3000: sent, quiet 1000, quiet 1, sent, sent, no acknowledgement."
    ∷ calls (fresh 38) calls_10 0
    -- 11. "Sent three times, NAK at 2005, poll at 2005: no acknowledgement."
    ∷ calls (fresh 38) calls_11 0
    -- 12. "R = 255, ID 65535 just issued, none live: the next is 256."
    ∷ calls next_is_last calls_12 0
    -- 13. "Fourth live submit: 5. After one ending: accepted."
    ∷ calls (fresh 38) calls_13 0
    -- 14. "249 data bytes with three live: 4."
    ∷ calls (fresh 38) calls_14 0
    ∷ []
