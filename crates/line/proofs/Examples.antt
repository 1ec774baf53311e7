-- Bench examples 7, 8 and 9 of document 01 as calls, and the lister's own case, computed by the definitions.
use Prim.Native.Nat.{ℕ}
use mathlib.Core.List.{List, [], ◌∷◌, ◌++◌}
use mathlib.Core.Path.{◌≡◌, refl}
use lib.ListN.{take}
use Rattle.checksum.specs.Checksum.{with_bit, with_bits, bits_of, checksum_from, checksum_of}
use Rattle.message.specs.Bytes.{ack, allowed}
use Rattle.message.specs.Items.{damaged_payload, message, stands, dropped, rules, scan, payload_of}
use Rattle.line.specs.Cuts.{found, handed_in, handed, handed_each}
use Rattle.line.specs.Worked.{pieces, heard}
use Rattle.line.specs.Receiving.{more, item, smallest, taken, receive}

-- "ACK, SEQ 0"
abbrev case_3 : List ℕ
case_3 = 0xAA ∷ 0x55 ∷ 0x40 ∷ 0x00 ∷ 0x00 ∷ 0x00 ∷ 0x5C ∷ 0xEA ∷ 0xFF ∷ 0xFF ∷ []

abbrev case_6 : List ℕ
case_6 = 0xAA ∷ 0x55 ∷ 0x80 ∷ 0x08 ∷ 0x00 ∷ 0x00 ∷ 0x59 ∷ 0xF0 ∷ 0x80 ∷ 0x03 ∷ 0x01 ∷ 0x00 ∷ 0x01 ∷ 0x27 ∷ 0x00 ∷ 0x01 ∷ 0x5E ∷ 0x34 ∷ []

-- "00 AA then case 3: one ACK, 12 taken"
pub example_7 : receive [] (0x00 ∷ 0xAA ∷ case_3) ≡ record { answer = item (message ack 0 0); payload = []; taken = 12; held = [] }
unfolding receive taken smallest scan dropped stands rules payload_of allowed checksum_of checksum_from with_bits with_bit bits_of
example_7 = refl

-- "First 9 bytes of case 3: *more*, 9 held"
pub example_8 : receive [] (take 9 case_3) ≡ record { answer = more; payload = []; taken = 9; held = take 9 case_3 }
unfolding receive taken smallest scan dropped stands rules payload_of allowed checksum_of checksum_from with_bits with_bit bits_of
example_8 = refl

-- "Case 3 with last byte FE: damaged payload, .. 8 held"
pub example_9 : receive [] (take 9 case_3 ++ (0xFE ∷ []))
    ≡ record {
      answer = item damaged_payload;
      payload = [];
      taken = 10;
      held =
          0x40 ∷ 0x00 ∷ 0x00 ∷ 0x00 ∷ 0x5C ∷ 0xEA ∷ 0xFF ∷ 0xFE ∷ [];
    }
unfolding receive taken smallest scan dropped stands rules payload_of allowed checksum_of checksum_from with_bits with_bit bits_of
example_9 = refl

-- the lister's: "case 3 followed by the first 17 bytes of case 6, whole": one ACK, 17 held
pub example_lister : handed [] (case_3 ++ take 17 case_6)
    ≡ record { items = found (message ack 0 0) [] ∷ []; held = take 17 case_6 }
unfolding handed handed_in receive taken smallest scan dropped stands rules payload_of allowed checksum_of checksum_from with_bits with_bit bits_of
example_lister = refl

-- pieces by hand: the items and the held bytes that are written out
pub worked : handed_each [] pieces ≡ heard
unfolding handed_each handed handed_in receive taken smallest scan dropped stands rules payload_of allowed checksum_of checksum_from with_bits with_bit bits_of
worked = refl
