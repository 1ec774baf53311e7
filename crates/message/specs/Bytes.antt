-- Document 01, "Bytes on the line": what a message is, as a list of bytes. The definitions stand in the order of its text.
use Rattle.std.specs.Prelude.{ℕ, ◌+◌, ◌*◌, ◌/◌, ◌%◌, Bool, false, not, ◌&&◌, ◌||◌, cond as if, List, [], ◌∷◌, ◌++◌, eqb, leb, length, take, drop}
use Rattle.checksum.specs.Checksum.{checksum_of}

-- "All numbers little-endian, no padding": the two bytes of a 16-bit number
unfoldable pub le16 : ℕ → List ℕ
le16 n = n % 256 ∷ n / 256 ∷ []

-- and the number whose bytes are low and high
abbrev pub from_le16 : ℕ → ℕ → ℕ
from_le16 low high = low + high * 256

-- "every message opens with the two bytes AA 55 (SYN)"
abbrev pub syn1 : ℕ
syn1 = 0xAA

abbrev pub syn2 : ℕ
syn2 = 0x55

abbrev pub syn : List ℕ
syn = syn1 ∷ syn2 ∷ []

-- "then TYPE (1), LEN (2), SEQ (1)"
unfoldable pub fields : ℕ → ℕ → ℕ → List ℕ
fields type len seq = type ∷ (le16 len ++ (seq ∷ []))

-- "checksum of those four (2)": with SYN before them, the header
unfoldable pub header : ℕ → ℕ → ℕ → List ℕ
header type len seq = syn ++ (fields type len seq ++ le16 (checksum_of (fields type len seq)))

-- how many bytes that is: 2 + 1 + 2 + 1 + 2
abbrev pub header_length : ℕ
header_length = 8

-- "LEN payload bytes; checksum of the payload (2), present also when LEN is 0"
unfoldable pub body : List ℕ → List ℕ
body payload = payload ++ le16 (checksum_of payload)

-- the bytes of a message
unfoldable pub message : ℕ → ℕ → List ℕ → List ℕ
message type seq payload = header type (length payload) seq ++ body payload

-- the LEN payload bytes of a message that stands at a place: behind its header
abbrev pub payload_at : ℕ → ℕ → List ℕ → List ℕ
payload_at place len bytes = take len (drop (place + header_length) bytes)

-- "Total 10 + LEN"
abbrev pub total : ℕ → ℕ
total len = 10 + len

-- "TYPE: NAK 0x04, ACK 0x40, DATA_SEQ 0x80, DATA_NSQ 0x00"
abbrev pub nak : ℕ
nak = 0x04

abbrev pub ack : ℕ
ack = 0x40

abbrev pub data_seq : ℕ
data_seq = 0x80

abbrev pub data_nsq : ℕ
data_nsq = 0x00

-- "LEN 1 to 256 (upper end house)": the upper end, stated here alone
abbrev pub max_len : ℕ
max_len = 256

-- "ACK and NAK have LEN 0. Data frames have LEN 1 to 256 (upper end house). Anything else is forbidden."
unfoldable pub allowed : ℕ → ℕ → Bool
allowed type len =
    if (eqb type ack || eqb type nak) (eqb len 0)
    (if (eqb type data_seq || eqb type data_nsq) (leb 1 len && leb len max_len)
    false)

-- "A written NAK has SEQ 0": the headers that may be written
unfoldable pub writable : ℕ → ℕ → ℕ → Bool
writable type len seq = allowed type len && (not (eqb type nak) || eqb seq 0)
