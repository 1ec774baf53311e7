-- Document 01, **Submit**, **Receive** and **Poll**: runs of requests on paths that the other tables do not take.
use Rattle.std.specs.Prelude.{ℕ, true, false, List, [], ◌∷◌}
use Rattle.std.proofs.Math.Option.{none, some}
use Rattle.message.specs.Bytes.{message, ack, data_seq}
use Rattle.message.specs.Items as items
use Rattle.line.specs.Receiving.{item}
use Rattle.command.specs.Payload.{payload}
use Rattle.ledger.specs.Parts.{State, queued, waiting, Request, fresh}
use Rattle.ledger.specs.Answers as answer
use Rattle.ledger.specs.Answers.{acknowledged, no_response, no_word, unmatched, sent, ended, quiet, submitted}
use Rattle.ledger.specs.Receiving.{ack_message}
use Rattle.ledger.specs.Calls.{submit}
use Rattle.ledger.specs.Examples.{Row, Example, calls, fields, submits, polls, receives, case_3, case_6, ack_item, ends_by}
use Rattle.ledger.specs.FaultRuns.{with_live, request, flying, bytes, told, hears, answering}

-- an ID that is passed over because it is live, and the one after it: 41 is live and next, so 42 is issued; it ends, and 43 comes
abbrev pub passed_over : List Row
passed_over =
    submits [] 0 (submitted 42)
    ∷ polls 0 (sent 18) (message data_seq 2 (payload fields 42 []))
    ∷ receives (ack_message 2) 0 (item (items.message ack 2 0)) no_word (some (ends_by 42 acknowledged)) []
    ∷ submits [] 0 (submitted 43)
    ∷ []

-- data goes out in the frame, and again
abbrev pub with_data : List Row
with_data =
    submits bytes 0 (submitted 39)
    ∷ polls 0 (sent 20) (message data_seq 0 (payload fields 39 bytes))
    ∷ polls 1000 (sent 20) (message data_seq 0 (payload fields 39 bytes))
    ∷ []

-- a request that wants a response, an ACK 700 ms after its frame, and the response's deadline
abbrev pub ack_later : List Row
ack_later =
    record { call = submit fields [] true 0; answer = submitted 39; buffers = [] }
    ∷ polls 0 (sent 18) case_6
    ∷ receives case_3 700 ack_item no_word none []
    ∷ polls 700 (quiet (some 3000)) []
    ∷ polls 3699 (quiet (some 1)) []
    ∷ polls 3700 (ended (ends_by 39 no_response)) []
    ∷ []

-- two whose time is up at one reading
abbrev pub older_first : List Row
older_first = polls 3000 (ended (ends_by 39 no_response)) [] ∷ polls 3000 (ended (ends_by 40 no_response)) [] ∷ []

-- a request that wants no response, in a state
abbrev pub unwanting : (id : ℕ) → State → Request
unwanting id s = record { id = id; fields = fields; bytes = []; wanted = false; state = s }

-- a response to request 40, which ends, in a frame of SEQ 6; and one that nobody matches, by its RQID, in a frame of SEQ 5
abbrev pub answered : Row
answered = hears 6 answering 40 (answer.Word.response (told answering 40)) (some (ends_by 40 answer.Cause.response)) bytes

abbrev pub unanswered : (id : ℕ) → Row
unanswered id = hears 5 answering id (unmatched (told answering id)) none []

abbrev pub request_runs : List Example
request_runs =
    -- "The ID is the first one not live, from the next request ID on .. The next request ID is then the one after it."
    calls (with_live 0 (request 41 (waiting 0) ∷ [])) passed_over 0
    -- "what each live request was submitted with": its data
    ∷ calls (fresh 38) with_data 0
    -- "response wanted, it waits from this reading"; "clock minus since at least 3,000 ms"
    ∷ calls (fresh 38) ack_later 0
    -- "The oldest waiting request .. ends"
    ∷ calls (with_live 3000 (request 39 (waiting 0) ∷ request 40 (waiting 0) ∷ [])) older_first 0
    -- "to the earliest such deadline": that of the one in flight, whichever is older
    ∷ calls (with_live 0 (request 39 (waiting 0) ∷ request 40 (flying 0) ∷ [])) (polls 0 (quiet (some 1000)) [] ∷ []) 0
    ∷ calls (with_live 0 (request 39 (flying 0) ∷ request 40 (waiting 0) ∷ [])) (polls 0 (quiet (some 1000)) [] ∷ []) 0
    -- a queued one has none
    ∷ calls (with_live 0 (request 39 queued ∷ request 40 (flying 0) ∷ [])) (polls 0 (quiet (some 1000)) [] ∷ []) 0
    -- "A request in flight or waiting that wants a response": waiting; but not queued, and not one that wants none; "with equal RQID"
    ∷ calls (with_live 0 (request 40 (waiting 0) ∷ [])) (unanswered 41 ∷ answered ∷ []) 0
    ∷ calls (with_live 0 (request 40 queued ∷ [])) (unanswered 40 ∷ []) 0
    ∷ calls (with_live 0 (unwanting 40 (flying 0) ∷ [])) (unanswered 40 ∷ []) 0
    ∷ []
