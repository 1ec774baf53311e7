-- Document 01, "Receive replies and acts by item": runs for what the fourteen examples and the faults do not reach.
use Rattle.std.specs.Prelude.{ℕ, List, [], ◌∷◌, take}
use Rattle.std.proofs.Math.Option.{none}
use Rattle.message.specs.Bytes.{message, data_seq, data_nsq}
use Rattle.message.specs.Items.{damaged_header, forbidden}
use Rattle.line.specs.Receiving.{item}
use Rattle.command.specs.Payload.{payload}
use Rattle.ledger.specs.Parts.{fresh}
use Rattle.ledger.specs.Answers.{Word, no_word, stray, not_command, event, unmatched, sent}
use Rattle.ledger.specs.Receiving.{ack_message, nak_message}
use Rattle.ledger.specs.Examples.{Row, Example, calls, fields, polls, receives, case_5, nak_item}
use Rattle.ledger.specs.FaultRuns.{with_live, request, flying, frame, gets, bytes, told}

-- a data frame of a TYPE with a payload, for R = 38 with nothing live: the word, the reply and the bytes put into the data buffer
abbrev pub frame_gets : (type : ℕ) (payload : List ℕ) → Word → (reply puts : List ℕ) → Example
frame_gets type content word reply puts = calls (fresh 38) (gets 0 type 9 content word none reply puts ∷ []) 0

-- a command of example 6's fields and two data bytes with a request ID
abbrev pub command : (id : ℕ) → List ℕ
command id = payload fields id bytes

-- the header of example 3 with another checksum
abbrev pub damaged_ack : List ℕ
damaged_ack = 0xAA ∷ 0x55 ∷ 0x40 ∷ 0x00 ∷ 0x00 ∷ 0x00 ∷ 0x5C ∷ 0xEB ∷ []

-- a NAK with SEQ 0, then a poll that sends the frame again
abbrev pub marked_then_sent : List Row
marked_then_sent = receives case_5 0 nak_item no_word none [] ∷ polls 0 (sent 18) (frame 40) ∷ []

abbrev pub item_runs : List Example
item_runs =
    -- "Damaged header .. : reply NAK, whatever TYPE the header shows": here ACK
    calls (fresh 38) (receives damaged_ack 0 (item damaged_header) no_word none nak_message ∷ []) 6
    -- "Forbidden: no reply."
    ∷ calls (fresh 38) (receives (take 8 (message 0x01 0 [])) 0 (item forbidden) no_word none [] ∷ []) 6
    -- "NAK: .. none in flight: *stray*."
    ∷ calls (fresh 38) (receives case_5 0 nak_item stray none [] ∷ []) 0
    -- "NAK: marks the frame in flight", which is due then; its SEQ "is ignored": that in flight is 1
    ∷ calls (with_live 0 (request 40 (flying 0) ∷ [])) marked_then_sent 0
    -- "LEN under 8 or first byte not 0x80: *not a command*."
    ∷ frame_gets data_seq (take 7 (command 38)) not_command (ack_message 9) []
    ∷ frame_gets data_seq (0x81 ∷ command 38) not_command (ack_message 9) []
    -- "RQID 1 to R: *event*."; an ID outside is *unmatched*, and its data is not put
    ∷ frame_gets data_seq (command 1) (event (told fields 1)) (ack_message 9) bytes
    ∷ frame_gets data_seq (command 38) (event (told fields 38)) (ack_message 9) bytes
    ∷ frame_gets data_seq (command 0) (unmatched (told fields 0)) (ack_message 9) []
    ∷ frame_gets data_seq (command 39) (unmatched (told fields 39)) (ack_message 9) []
    -- "DATA_NSQ: no reply"
    ∷ frame_gets data_nsq (command 38) (event (told fields 38)) [] bytes
    ∷ []
