-- What C is told, in document 01's numbers: bytes of its bench examples, headers and IDs, with the answer to each.
use Rattle.std.specs.Prelude.{ℕ, List, [], ◌∷◌, ◌++◌, ◌≡◌, length, take}
use Rattle.message.specs.Items.{scan}
use Rattle.message.specs.Writing.{written}
use Rattle.audit.specs.Audit.{audit}
use Rattle.c_api.specs.Numbers.{number_of, Numbers, numbers, numbers_of, position_in}

-- what the reader, the writer or the audit is handed, and its answer. The reader's numbers are the rule, TYPE, SEQ, the payload's place,
-- LEN, the bytes dropped and the bytes removed
pub data Row : Type 0 where
  reads : (bytes : List ℕ) (answer : Numbers) → Row
  writes : (size place type seq len answer : ℕ) → Row
  audits : (reserved : ℕ) (ids : List ℕ) (answer : ℕ) → Row

-- the answer is what C is told
unfoldable pub IsTold : Row → Type 0
IsTold (reads bytes answer) = numbers_of (scan bytes) ≡ answer
IsTold (writes size place type seq len answer) = number_of (written size place type seq len) ≡ answer
IsTold (audits reserved ids answer) = position_in (length ids) (audit reserved ids) ≡ answer

-- the same of every row of a list
unfoldable pub AllTold : List Row → Type 0
AllTold [] = Unit
AllTold (row ∷ rows) = IsTold row × AllTold rows

-- the bytes of examples 3, 4 and 6
abbrev pub case_3 : List ℕ
case_3 = 0xAA ∷ 0x55 ∷ 0x40 ∷ 0x00 ∷ 0x00 ∷ 0x00 ∷ 0x5C ∷ 0xEA ∷ 0xFF ∷ 0xFF ∷ []

abbrev pub case_4 : List ℕ
case_4 = 0xAA ∷ 0x55 ∷ 0x40 ∷ 0x00 ∷ 0x00 ∷ 0xFF ∷ 0xAC ∷ 0xF4 ∷ 0xFF ∷ 0xFF ∷ []

abbrev pub case_6 : List ℕ
case_6 =
    0xAA ∷ 0x55 ∷ 0x80 ∷ 0x08 ∷ 0x00 ∷ 0x00 ∷ 0x59 ∷ 0xF0
    ∷ 0x80 ∷ 0x03 ∷ 0x01 ∷ 0x00 ∷ 0x01 ∷ 0x27 ∷ 0x00 ∷ 0x01 ∷ 0x5E ∷ 0x34 ∷ []

-- the header of example 3 with another checksum
abbrev pub damaged_ack : List ℕ
damaged_ack = 0xAA ∷ 0x55 ∷ 0x40 ∷ 0x00 ∷ 0x00 ∷ 0x00 ∷ 0x5C ∷ 0xEB ∷ []

-- the header of an ACK with LEN 1, its checksum right
abbrev pub forbidden_ack : List ℕ
forbidden_ack = 0xAA ∷ 0x55 ∷ 0x40 ∷ 0x01 ∷ 0x00 ∷ 0x00 ∷ 0x6C ∷ 0xDD ∷ []

-- what is read, for each rule
abbrev pub readings : List Row
readings =
    -- 1. "Fewer than 8 bytes: undecided."; "a lone AA at the end is kept"
    reads (0x00 ∷ 0xAA ∷ []) (numbers 0 0 0 0 0 1 0)
    -- 2. "Header checksum wrong: item *damaged header*."
    ∷ reads (0x00 ∷ damaged_ack) (numbers 2 0 0 0 0 1 2)
    -- 3. "Header forbidden: item *forbidden*."
    ∷ reads (0x00 ∷ forbidden_ack) (numbers 3 0 0 0 0 1 2)
    -- 4. "Fewer than 10 + LEN: undecided.": "First 9 bytes of case 3"
    ∷ reads (take 9 case_3) (numbers 0 0 0 0 0 0 0)
    -- 5. "Payload checksum wrong: item *damaged payload*.": "Case 3 with last byte FE"
    ∷ reads (take 9 case_3 ++ (0xFE ∷ [])) (numbers 5 0 0 0 0 0 2)
    -- 6. "Otherwise: item *message*.": "00 AA then case 3"; case 4; 00 AA then case 6
    ∷ reads (0x00 ∷ 0xAA ∷ case_3) (numbers 6 0x40 0 10 0 2 10)
    ∷ reads case_4 (numbers 6 0x40 255 8 0 0 10)
    ∷ reads (0x00 ∷ 0xAA ∷ case_6) (numbers 6 0x80 0 10 8 2 18)
    ∷ []

-- what is written, and refused
abbrev pub writings : List Row
writings =
    -- "it answers the length written": case 3 where it just fits, and the frame of case 6 at place 2
    writes 10 0 0x40 0 0 10
    ∷ writes 20 2 0x80 0 8 18
    -- "place plus 10 + LEN past the buffer's end"
    ∷ writes 19 2 0x80 0 8 6
    -- "forbidden header, or NAK with SEQ not 0"; 6 comes "after 7"
    ∷ writes 11 0 0x40 0 1 7
    ∷ writes 9 0 0x04 1 0 7
    ∷ []

-- what is audited
abbrev pub auditings : List Row
auditings =
    -- "whose ID is 0, at most R, or equal to an earlier one"
    audits 38 (39 ∷ 0 ∷ []) 1
    ∷ audits 38 (38 ∷ 39 ∷ []) 0
    ∷ audits 38 (39 ∷ 40 ∷ 39 ∷ []) 2
    -- "or that there is none"; "An empty row has none."
    ∷ audits 38 (39 ∷ 40 ∷ []) 2
    ∷ audits 38 [] 0
    ∷ []
