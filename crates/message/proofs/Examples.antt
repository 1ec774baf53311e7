-- Bench examples 3, 4, 5, 7, 8 and 9 of document 01, and the frame of 6, computed by the definitions.
use Prim.Native.Nat.{ℕ}
use mathlib.Core.List.{List, [], ◌∷◌}
use mathlib.Core.Path.{◌≡◌, refl}
use lib.ListN.{take}
use Rattle.checksum.specs.Checksum.{with_bit, with_bits, bits_of, checksum_from, checksum_of}
use Rattle.message.specs.Items as items
use Rattle.message.specs.Bytes.{le16, fields, header, body, message, nak, ack, data_seq, allowed}
use Rattle.message.specs.Items.{undecided, decided, stands, dropped, rules, scan}

-- "ACK, SEQ 0"
abbrev case_3 : List ℕ
case_3 = 0xAA ∷ 0x55 ∷ 0x40 ∷ 0x00 ∷ 0x00 ∷ 0x00 ∷ 0x5C ∷ 0xEA ∷ 0xFF ∷ 0xFF ∷ []

pub example_3 : message ack 0 [] ≡ case_3
unfolding message header fields body le16 checksum_of checksum_from with_bits with_bit bits_of
example_3 = refl

-- "ACK, SEQ 255"
pub example_4 : message ack 255 [] ≡ 0xAA ∷ 0x55 ∷ 0x40 ∷ 0x00 ∷ 0x00 ∷ 0xFF ∷ 0xAC ∷ 0xF4 ∷ 0xFF ∷ 0xFF ∷ []
unfolding message header fields body le16 checksum_of checksum_from with_bits with_bit bits_of
example_4 = refl

-- "NAK"
pub example_5 : message nak 0 [] ≡ 0xAA ∷ 0x55 ∷ 0x04 ∷ 0x00 ∷ 0x00 ∷ 0x00 ∷ 0x31 ∷ 0x4E ∷ 0xFF ∷ 0xFF ∷ []
unfolding message header fields body le16 checksum_of checksum_from with_bits with_bit bits_of
example_5 = refl

-- the frame of example 6, whose payload is a command: LEN 8, SEQ 0
pub example_6_frame : message data_seq 0 (0x80 ∷ 0x03 ∷ 0x01 ∷ 0x00 ∷ 0x01 ∷ 0x27 ∷ 0x00 ∷ 0x01 ∷ [])
    ≡ 0xAA ∷ 0x55 ∷ 0x80 ∷ 0x08 ∷ 0x00 ∷ 0x00 ∷ 0x59 ∷ 0xF0 ∷ 0x80 ∷ 0x03 ∷ 0x01 ∷ 0x00 ∷ 0x01 ∷ 0x27 ∷ 0x00 ∷ 0x01 ∷ 0x5E ∷ 0x34 ∷ []
unfolding message header fields body le16 checksum_of checksum_from with_bits with_bit bits_of
example_6_frame = refl

-- "00 AA then case 3: one ACK, 12 taken"
pub example_7 : scan (0x00 ∷ 0xAA ∷ case_3) ≡ decided (items.message ack 0 0) 2 10
unfolding scan dropped stands rules allowed checksum_of checksum_from with_bits with_bit bits_of
example_7 = refl

-- "First 9 bytes of case 3: more, 9 held"
pub example_8 : scan (take 9 case_3) ≡ undecided 0
unfolding scan dropped stands rules allowed checksum_of checksum_from with_bits with_bit bits_of
example_8 = refl

-- "Case 3 with last byte FE: damaged payload, .. 8 held"
pub example_9 : scan (0xAA ∷ 0x55 ∷ 0x40 ∷ 0x00 ∷ 0x00 ∷ 0x00 ∷ 0x5C ∷ 0xEA ∷ 0xFF ∷ 0xFE ∷ []) ≡ decided items.damaged_payload 0 2
unfolding scan dropped stands rules allowed checksum_of checksum_from with_bits with_bit bits_of
example_9 = refl
