-- Document 01, "Refusal numbers": each number of the endpoint's calls as a run, each clause of the malformed rule, the limits that are
-- no refusal, and the order of the table.
use Rattle.std.specs.Prelude.{ℕ, Bool, true, false, List, [], ◌∷◌, length}
use Rattle.std.proofs.Math.Option.{some}
use Rattle.message.specs.Bytes.{total, max_len}
use Rattle.line.specs.Receiving.{held_max}
use Rattle.command.specs.Payload.{max_data}
use Rattle.link.specs.Frames.{max_transmissions}
use Rattle.link.specs.Repeats.{none_seen}
use Rattle.ledger.specs.Parts.{State, queued, in_flight, waiting, Request, Ledger, fresh}
use Rattle.ledger.specs.Answers.{quiet, refused, opened}
use Rattle.ledger.specs.Calls.{Call, submit, receive, poll, lent_by}
use Rattle.ledger.specs.Examples.{Row, Example, calls, opening, zeros, fields, polls}

-- a refused call: its number, and every lent buffer as it was
abbrev pub refuses : Call → (number : ℕ) → Row
refuses c n = record { call = c; answer = refused n; buffers = lent_by c }

-- a poll at a reading, with an output of so many bytes; a receive of no bytes with buffers of so many; a submit of so many bytes
abbrev pub polling : (output clock : ℕ) → Call
polling output clock = poll (zeros output) clock

abbrev pub receiving : (reply buffer clock : ℕ) → Call
receiving reply buffer clock = receive [] (zeros reply) (zeros buffer) clock

abbrev pub submitting : (bytes clock : ℕ) → Call
submitting bytes clock = submit fields (zeros bytes) false clock

-- a ledger at clock 1000 with an R, a next ID, live requests and so many bytes held
abbrev pub ledger : (reserved next_id : ℕ) → List Request → (held : ℕ) → Ledger
ledger r next_id live held =
    record { reserved = r; clock = 1000; next_seq = 0; next_id = next_id; seen = none_seen; live = live; held = zeros held }

abbrev pub request : (id bytes : ℕ) (wanted : Bool) → State → Request
request id bytes wanted s = record { id = id; fields = fields; bytes = zeros bytes; wanted = wanted; state = s }

abbrev pub flying : (transmissions sent : ℕ) → State
flying n t = in_flight (record { seq = 0; transmissions = n; sent = t; marked = false })

-- a ledger whose poll at its own clock is refused as malformed
abbrev pub is_malformed : Ledger → Example
is_malformed l = calls l (refuses (polling (total max_len) 1000) 1 ∷ []) (length l.held)

-- R 38, one request
abbrev pub alone : Request → Ledger
alone q = ledger 38 40 (q ∷ []) 0

-- everything at its limit: R 255, three live, the first ID and the last, three transmissions, 248 data bytes, times at the clock,
-- 265 bytes held
abbrev pub at_limits : Ledger
at_limits =
    ledger 255 65535
    (request 256 max_data false (flying max_transmissions 1000)
    ∷ request 65535 0 true (waiting 1000)
    ∷ request 257 0 false queued
    ∷ []) held_max

abbrev pub three_queued : Ledger
three_queued = ledger 38 42 (request 39 0 false queued ∷ request 40 0 false queued ∷ request 41 0 false queued ∷ []) 0

-- calls before its clock, with buffers too short and data too long besides; calls with a buffer one byte too short
abbrev pub too_early : List Row
too_early = refuses (submitting 249 999) 2 ∷ refuses (receiving 0 0 999) 2 ∷ refuses (polling 0 999) 2 ∷ []

abbrev pub too_short : List Row
too_short = refuses (receiving 9 248 1000) 6 ∷ refuses (receiving 10 247 1000) 6 ∷ refuses (polling 265 1000) 6 ∷ []

abbrev pub refusal_runs : List Example
refusal_runs =
    -- 1: "R over 255"
    is_malformed (ledger 256 257 [] 0)
    -- "more than three live"
    ∷ is_malformed (ledger 38 43 (request 42 0 false queued ∷ three_queued.live) 0)
    -- "a live or next ID outside R + 1 to 65535"
    ∷ is_malformed (alone (request 38 0 false queued))
    ∷ is_malformed (alone (request 65536 0 false queued))
    ∷ is_malformed (ledger 38 38 [] 0)
    ∷ is_malformed (ledger 38 65536 [] 0)
    -- "two equal live IDs"
    ∷ is_malformed (ledger 38 40 (request 39 0 false queued ∷ request 39 0 false queued ∷ []) 0)
    -- "two in flight"
    ∷ is_malformed (ledger 38 41 (request 39 0 false (flying 1 1000) ∷ request 40 0 false (flying 1 1000) ∷ []) 0)
    -- "transmissions not 1 to 3"
    ∷ is_malformed (alone (request 39 0 false (flying 0 1000)))
    ∷ is_malformed (alone (request 39 0 false (flying 4 1000)))
    -- "data over 248"
    ∷ is_malformed (alone (request 39 249 false queued))
    -- "a waiting request that wants no response"
    ∷ is_malformed (alone (request 39 0 false (waiting 1000)))
    -- "a time later than the clock"
    ∷ is_malformed (alone (request 39 0 false (flying 1 1001)))
    ∷ is_malformed (alone (request 39 0 true (waiting 1001)))
    -- "more than 265 held"
    ∷ is_malformed (ledger 38 39 [] 266)
    -- and nothing else: everything at its limit is not
    ∷ calls at_limits (polls 1000 (quiet (some 1000)) [] ∷ []) held_max
    -- 2: "clock below the last accepted reading", tested before the call's own
    ∷ calls three_queued too_early 0
    -- 3: "R over 255": the fresh ledger for R = 0; 255 is not over
    ∷ opening 256 (refused 3) (fresh 0)
    ∷ opening 255 opened (fresh 255)
    -- 4 before 5: "data over 248 bytes", "three live"
    ∷ calls three_queued (refuses (submitting 249 1000) 4 ∷ refuses (submitting 248 1000) 5 ∷ []) 0
    -- 6: "reply buffer under 10 or data buffer under 248", "output buffer under 266"
    ∷ calls three_queued too_short 0
    ∷ []
