-- Demand 2's cuts by hand: bytes in pieces, and the items and the held bytes that document 01's rules give, written out.
use Rattle.std.specs.Prelude.{ℕ, List, [], ◌∷◌}
use Rattle.message.specs.Items.{forbidden, damaged_payload, message}
use Rattle.line.specs.Cuts.{found, Heard}

-- a byte of noise and an ACK of SEQ 0; a second one whose last byte is FE, with a NAK right behind it; a header of TYPE 1, which is
-- forbidden; a DATA_NSQ frame of SEQ 7 with the payload 2A; and half of the next SYN. No piece ends where a message does
abbrev pub pieces : List (List ℕ)
pieces =
    (0x00 ∷ 0xAA ∷ [])
    ∷ (0x55 ∷ 0x40 ∷ 0x00 ∷ 0x00 ∷ 0x00 ∷ 0x5C ∷ 0xEA ∷ 0xFF ∷ 0xFF ∷ 0xAA ∷ 0x55 ∷ 0x40 ∷ 0x00 ∷ [])
    ∷ []
    ∷ (0x00 ∷ 0x00 ∷ 0x5C ∷ 0xEA ∷ 0xFF ∷ 0xFE ∷ 0xAA ∷ 0x55 ∷ 0x04 ∷ 0x00 ∷ 0x00 ∷ 0x00 ∷ 0x31 ∷ 0x4E ∷ 0xFF ∷ [])
    ∷ (0xFF ∷ 0xAA ∷ 0x55 ∷ 0x01 ∷ 0x00 ∷ 0x00 ∷ 0x00 ∷ 0x74 ∷ 0xF2 ∷ 0xAA ∷ 0x55 ∷ 0x00 ∷ 0x01 ∷ 0x00 ∷ [])
    ∷ (0x07 ∷ 0x17 ∷ 0xC3 ∷ 0x2A ∷ 0xD8 ∷ 0x64 ∷ 0xAA ∷ [])
    ∷ []

-- the ACK; the damaged one, of which only SYN is removed, so that the NAK is found; the forbidden header; the DATA_NSQ frame
abbrev pub heard : Heard
heard = record {
  items =
      found (message 0x40 0 0) []
      ∷ found damaged_payload []
      ∷ found (message 0x04 0 0) []
      ∷ found forbidden []
      ∷ found (message 0x00 7 1) (0x2A ∷ [])
      ∷ [];
  held = 0xAA ∷ [];
}
