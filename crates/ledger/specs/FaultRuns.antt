-- Document 01, "Faults we have shipped or nearly shipped": runs that show each of those that are the ledger's, and the order of
-- poll's steps, beside what the fourteen examples show already (example 11: a NAK does not restart the count).
use Rattle.std.specs.Prelude.{ℕ, true, List, [], ◌∷◌, length}
use Rattle.std.proofs.Math.Option.{Option, none, some}
use Rattle.message.specs.Bytes.{message, total, data_seq}
use Rattle.message.specs.Items as items
use Rattle.line.specs.Receiving.{item}
use Rattle.command.specs.Payload.{Fields, max_data, payload}
use Rattle.link.specs.Frames.{first_sent}
use Rattle.link.specs.Repeats.{none_seen}
use Rattle.ledger.specs.Parts.{State, in_flight, waiting, Request, Ledger, fresh}
use Rattle.ledger.specs.Answers as answer
use Rattle.ledger.specs.Answers.{no_response, Word, stray, repeat, event, unmatched, Command, Ending, sent, ended, quiet, received}
use Rattle.ledger.specs.Receiving.{ack_message}
use Rattle.ledger.specs.Calls.{receive}
use Rattle.ledger.specs.Examples.{Row, Example, calls, zeros, front, fields, polls, receives, case_3, ack_item, ends_by}

-- a ledger for R = 38 at a reading, with these live requests, the SEQ 2 next
abbrev pub with_live : (clock : ℕ) → List Request → Ledger
with_live clock live = record { reserved = 38; clock = clock; next_seq = 2; next_id = 41; seen = none_seen; live = live; held = [] }

-- a request with example 6's fields and no data that wants a response
abbrev pub request : (id : ℕ) → State → Request
request id s = record { id = id; fields = fields; bytes = []; wanted = true; state = s }

-- its frame, in flight with SEQ 1 since a reading
abbrev pub flying : (clock : ℕ) → State
flying clock = in_flight (first_sent 1 clock)

abbrev pub frame : (id : ℕ) → List ℕ
frame id = message data_seq 1 (payload fields id [])

-- a data frame of a TYPE at a reading: the word, the ending, the reply and the bytes put into the data buffer
abbrev pub gets : (clock type seq : ℕ) (payload : List ℕ) → Word → Option Ending → (reply puts : List ℕ) → Row
gets clock type seq content word ending reply puts = record {
  call = receive (message type seq content) (zeros (total 0)) (zeros max_data) clock;
  answer = received (record {
    item = item (items.message type seq (length content));
    word = word;
    taken = total (length content);
    replied = length reply;
    ending = ending;
  });
  buffers = front (total 0) reply ∷ front max_data puts ∷ [];
}

-- a DATA_SEQ command of two data bytes, which is acknowledged; the bytes that it puts into the data buffer
abbrev pub bytes : List ℕ
bytes = 7 ∷ 8 ∷ []

abbrev pub told : Fields → (id : ℕ) → Command
told f id = record { fields = f; rqid = id; length = 2 }

abbrev pub hears : (seq : ℕ) (f : Fields) (id : ℕ) → Word → Option Ending → (puts : List ℕ) → Row
hears seq f id word ending puts = gets 0 data_seq seq (payload f id bytes) word ending (ack_message seq) puts

-- the fields that answer, and the same with another TC
abbrev pub answering : Fields
answering = record { tc = 3; tid = 0; sid = 1; iid = 1; cid = 1 }

abbrev pub other_tc : Fields
other_tc = record { tc = 4; tid = 0; sid = 1; iid = 1; cid = 1 }

-- a repeat: an event, and the same frame again
abbrev pub twice : List Row
twice = hears 5 fields 38 (event (told fields 38)) none bytes ∷ hears 5 fields 38 repeat none [] ∷ []

-- a response with another TC, then the right one
abbrev pub other_then_right : List Row
other_then_right =
    hears 5 other_tc 40 (unmatched (told other_tc 40)) none []
    ∷ hears 6 answering 40 (answer.Word.response (told answering 40)) (some (ends_by 40 answer.Cause.response)) bytes
    ∷ []

-- a wait that is over and a frame that is due at one reading
abbrev pub wait_then_frame : List Row
wait_then_frame =
    polls 2999 (quiet (some 1)) []
    ∷ polls 3000 (ended (ends_by 39 no_response)) []
    ∷ polls 3000 (sent 18) (frame 40)
    ∷ []

abbrev pub fault_runs : List Example
fault_runs =
    -- "An ACK for an older SEQ ending the frame now in flight.": SEQ 1 is in flight, and the ACK of SEQ 0 is stray
    calls (with_live 0 (request 40 (flying 0) ∷ [])) (receives case_3 0 ack_item stray none [] ∷ []) 0
    -- "A repeat left unacknowledged": it is acknowledged, and nothing more
    ∷ calls (fresh 38) twice 0
    -- "A response matched by request ID alone.": with another TC it is unmatched, with every field it ends the request
    ∷ calls (with_live 0 (request 40 (flying 0) ∷ [])) other_then_right 0
    -- poll's steps 1 and 2: the wait ends before the frame is sent again, and neither a millisecond earlier
    ∷ calls (with_live 2000 (request 39 (waiting 0) ∷ request 40 (flying 2000) ∷ [])) wait_then_frame 0
    ∷ []
