-- Document 01, "The ledger": runs for what a call leaves as it was. Between two calls that belong together stand others of every
-- kind, and the second comes out differently where one of those lost or changed what it has no part in.
use Rattle.std.specs.Prelude.{ℕ, List, [], ◌∷◌, take}
use Rattle.std.proofs.Math.Option.{none, some}
use Rattle.message.specs.Bytes.{message, total, max_len, data_seq, data_nsq}
use Rattle.message.specs.Items.{damaged_header, forbidden}
use Rattle.line.specs.Receiving.{more, item}
use Rattle.command.specs.Payload.{max_data}
use Rattle.ledger.specs.Parts.{fresh}
use Rattle.ledger.specs.Answers.{acknowledged, no_acknowledgement, no_word, stray, repeat, not_command, event, sent, ended, quiet, submitted}
use Rattle.ledger.specs.Receiving.{ack_message, nak_message}
use Rattle.ledger.specs.Examples.{Row, Example, calls, fields, submits, polls, receives, case_3, case_5, case_6, ack_item, nak_item, ends_by}
use Rattle.ledger.specs.FaultRuns.{gets, bytes, told, hears}
use Rattle.ledger.specs.ItemRuns.{command, damaged_ack}
use Rattle.ledger.specs.RefusalRuns.{refuses, polling, receiving}

-- an event in a frame of SEQ 5, as it comes first, and as a repeat
abbrev pub comes : Row
comes = hears 5 fields 38 (event (told fields 38)) none bytes

abbrev pub comes_again : Row
comes_again = hears 5 fields 38 repeat none []

-- the same event in a DATA_NSQ frame
abbrev pub comes_unsequenced : (seq : ℕ) → Row
comes_unsequenced seq = gets 0 data_nsq seq (command 38) (event (told fields 38)) none [] bytes

-- an event, other calls of every kind, and its repeat
abbrev pub between_events : List Row
between_events =
    comes
    ∷ submits [] 0 (submitted 39)
    ∷ polls 0 (sent 18) case_6
    ∷ polls 0 (quiet (some 1000)) []
    ∷ receives case_3 0 ack_item no_word (some (ends_by 39 acknowledged)) []
    ∷ receives case_5 0 nak_item stray none []
    ∷ receives damaged_ack 0 (item damaged_header) no_word none nak_message
    ∷ receives (take 8 (message 0x01 0 [])) 0 (item forbidden) no_word none []
    ∷ receives [] 0 more no_word none []
    ∷ refuses (polling 265 0) 6
    ∷ comes_again
    ∷ []

-- the first 9 bytes of an ACK, other calls of every kind, and its last byte
abbrev pub between_pieces : List Row
between_pieces =
    submits [] 0 (submitted 39)
    ∷ polls 0 (sent 18) case_6
    ∷ polls 1000 (sent 18) case_6
    ∷ receives (take 9 case_3) 1000 more no_word none []
    ∷ submits [] 1000 (submitted 40)
    ∷ polls 2000 (sent 18) case_6
    ∷ polls 2000 (quiet (some 1000)) []
    ∷ refuses (receiving 9 248 2000) 6
    ∷ receives (0xFF ∷ []) 2000 ack_item no_word (some (ends_by 39 acknowledged)) []
    ∷ []

-- the same where the request ends in between: the ACK is read, and is stray
abbrev pub ended_between_pieces : List Row
ended_between_pieces =
    submits [] 0 (submitted 39)
    ∷ polls 0 (sent 18) case_6
    ∷ polls 1000 (sent 18) case_6
    ∷ polls 2000 (sent 18) case_6
    ∷ receives (take 9 case_3) 2000 more no_word none []
    ∷ polls 3000 (ended (ends_by 39 no_acknowledgement)) []
    ∷ receives (0xFF ∷ []) 3000 ack_item stray none []
    ∷ []

-- readings: that of each accepted call is the clock, and an earlier one is refused
abbrev pub earlier_readings : List Row
earlier_readings =
    submits [] 5 (submitted 39)
    ∷ refuses (polling (total max_len) 4) 2
    ∷ receives [] 6 more no_word none []
    ∷ refuses (polling (total max_len) 5) 2
    ∷ polls 7 (sent 18) case_6
    ∷ refuses (receiving (total 0) max_data 6) 2
    ∷ []

abbrev pub kept_runs : List Example
kept_runs =
    -- "If its SEQ equals the controller's last SEQ": whatever came between
    calls (fresh 38) between_events 0
    -- "DATA_NSQ: .. no comparison", and it is not remembered: one with another SEQ between two equal DATA_SEQ, one with the same SEQ
    ∷ calls (fresh 38) (comes ∷ comes_unsequenced 6 ∷ comes_again ∷ comes_unsequenced 5 ∷ []) 0
    -- "otherwise that becomes the last SEQ", whatever the frame carries: one that is no command, twice
    ∷ calls (fresh 38) (gets 0 data_seq 9 (take 7 (command 38)) not_command none (ack_message 9) []
    ∷ gets 0 data_seq 9 (take 7 (command 38)) repeat none (ack_message 9) []
    ∷ []) 0
    -- "What follows is held as it is": a message in two pieces
    ∷ calls (fresh 38) between_pieces 0
    ∷ calls (fresh 38) ended_between_pieces 0
    -- "An accepted call sets the clock."
    ∷ calls (fresh 38) earlier_readings 0
    ∷ []
