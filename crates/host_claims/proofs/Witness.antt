-- There is a list of calls on an endpoint: one with every endpoint, store, answer and buffer written out, so that what is claimed of
-- every such list speaks of something. That a call keeps its promise is computed; that the list with it is longer by one is what the
-- contracts of the calls say beside it (`Begins`, `Extends`).
use Prim.Native.Nat.{ℕ, ◌-◌}
use mathlib.Core.Bool.{true, false}
use mathlib.Core.List.{List, [], ◌∷◌, ◌++◌, map}
use mathlib.Core.Option.{none, some}
use mathlib.Core.Path.{◌≡◌, refl}
use lib.ListN.{take, drop}
use Rattle.std.specs.Prelude.{Option, Some, None, Ok, Err}
use Rattle.checksum.specs.Checksum.{with_bit, with_bits, bits_of, checksum_from, checksum_of}
use Rattle.message.specs.Bytes.{total, max_len, ack, le16, fields, header, body, message, allowed}
use Rattle.message.specs.Items.{stands, dropped, rules, scan}
use Rattle.message.specs.Writing.{placed}
use Rattle.message.specs.declared.Item.{Item}
use Rattle.message.specs.declared.Item.TheVariants.{Message}
use Rattle.line.specs.Receiving as line
use Rattle.command.specs.Payload.{max_data, payload}
use Rattle.command.specs.Promises.{fields_of}
use Rattle.command.specs.declared.Fields.{Fields}
use Rattle.link.specs.SequenceIds.{seq_after}
use Rattle.link.specs.Frames.{due}
use Rattle.std.specs.Prelude.{None}
use Rattle.ledger.specs.Parts.{oldest}
use Rattle.ledger.specs.Answers.{no_response, no_word, sent, ended, quiet, refused, submitted}
use Rattle.ledger.specs.Submitting.{id_after, is_live, first_free}
use Rattle.ledger.specs.Receiving as receiving
use Rattle.ledger.specs.Receiving.{on_message}
use Rattle.ledger.specs.Polling as polling
use Rattle.ledger.specs.Polling.{earliest}
use Rattle.ledger.specs.Calls.{Call, submit, receive, poll}
use Rattle.ledger.specs.Refusals.{some_of, two_equal, flights, first_of}
use Rattle.ledger.specs.Runs.{Outcome, past_from, past_of}
use Rattle.ledger.specs.Examples as example
use Rattle.ledger.specs.Examples.{Row, zeros, front, submits, polls, receives, case_3, case_6, ack_item, ends_by}
use Rattle.ledger.specs.declared.Cause.TheVariants.{NoResponse}
use Rattle.ledger.specs.declared.Refusal.TheVariants.{DataOver}
use Rattle.claims.specs.Trace.{last_asked, endings, frames, requests}
use Rattle.claims.specs.ClockRule.{ClockRule}
use Rattle.claims.proofs.ClockTest.{may_follow, keeps_clock_rule, test_rule}
use Rattle.endpoint.specs.Endpoint.{store_length, requests_from}
use Rattle.endpoint.specs.Malformed.{too_long, malformed}
use Rattle.endpoint.specs.declared.State.{State}
use Rattle.endpoint.specs.declared.State.TheVariants.{Queued, InFlight, Waiting}
use Rattle.endpoint.specs.declared.Requests.{Requests}
use Rattle.endpoint.specs.declared.Endpoint.{Endpoint}
use Rattle.endpoint.proofs.Rows.{blank_row}
use Rattle.host_answers.specs.Promises.{Result, Promise, submit_result, receive_result, poll_result}
use Rattle.host_answers.specs.Promises as promise
use Rattle.host_answers.specs.Answers as returned
use Rattle.host_answers.specs.Answers.{SubmitAnswer, PollAnswer}
use Rattle.host_answers.specs.declared.PollOutcome.TheVariants as outcome
use Rattle.host_claims.specs.Chains.{Chain, outcome_from}
use Rattle.host_claims.specs.Claims.{Demand3}
use Rattle.host_claims.proofs.Extending.{demand_3, extends, begins}

-- what open is given
abbrev pub reserved : ℕ
reserved = 38

-- the calls, each with its answer and the lent buffers afterwards: example 6's request, response wanted, is sent; a submit with 249
-- bytes of data is refused; the ACK comes in two pieces; no response comes, and the request ends; then polls rest, the last of them
-- 12,000 ms after it was accepted
abbrev pub rows : List Row
rows =
    record { call = submit example.fields [] true 0; answer = submitted 39; buffers = [] }
    ∷ polls 0 (sent 18) case_6
    ∷ polls 0 (quiet (some 1000)) []
    ∷ submits (zeros 249) 500 (refused 4)
    ∷ receives (take 4 case_3) 0 line.more no_word none []
    ∷ receives (drop 4 case_3) 0 ack_item no_word none []
    ∷ polls 0 (quiet (some 3000)) []
    ∷ polls 2999 (quiet (some 1)) []
    ∷ polls 3000 (ended (ends_by 39 no_response)) []
    ∷ polls 3000 (quiet none) []
    ∷ polls 12000 (quiet none) []
    ∷ []

abbrev pub calls : List Call
calls = map (λ row. row.call) rows

abbrev pub outcomes : List Outcome
outcomes = map (λ row. record { answer = row.answer; buffers = row.buffers }) rows

-- the rows of an endpoint: nobody live, or the one request
abbrev nobody : Requests
nobody = record { rows = blank_row ∷ blank_row ∷ blank_row ∷ []; count = 0 }

abbrev example_6 : Fields
example_6 = record { tc = 3; tid = 1; sid = 0; iid = 1; cid = 1 }

abbrev one : State → Requests
one state = record {
  rows = record { id = record { 0 = 39 }; fields = example_6; wanted = true; len = 0; state = state } ∷ blank_row ∷ blank_row ∷ [];
  count = 1;
}

-- the endpoints: fresh, the request queued, in flight with some bytes held, waiting, and after it has ended
abbrev endpoint : Requests → (clock seq next held : ℕ) → Endpoint
endpoint live clock seq next held = record {
  live = live;
  reserved = reserved;
  clock = clock;
  seq = record { 0 = seq };
  next = record { 0 = next };
  seen = record { last = None };
  held = held;
}

abbrev fresh : Endpoint
fresh = endpoint nobody 0 0 39 0

abbrev queued : Endpoint
queued = endpoint (one Queued) 0 0 40 0

abbrev in_flight : (held : ℕ) → Endpoint
in_flight held =
    endpoint (one (InFlight (record { seq = record { 0 = 0 }; transmissions = 1; sent = 0; marked = false }))) 0 1 40 held

abbrev waiting : (clock : ℕ) → Endpoint
waiting clock = endpoint (one (Waiting 0)) clock 1 40 0

abbrev over : (clock : ℕ) → Endpoint
over clock = endpoint nobody clock 1 40 0

-- what open hands back, and the endpoint in the end
abbrev pub first : returned.Opened
first = record { answer = Ok tt; endpoint = fresh }

abbrev pub last : Endpoint
last = over 12000

-- the store: zeros at first, then the first piece of the ACK at the front of them
abbrev zero_store : List ℕ
zero_store = zeros store_length

abbrev pub last_store : List ℕ
last_store = front store_length (take 4 case_3)

-- what is shown of them
pub record Witnessed (calls : List Call) (outcomes : List Outcome) : Type 0 where
  -- after open with R = 38 they are a list of calls on an endpoint, with these outcomes, which ends in this endpoint and this store
  pub list : Chain reserved first calls outcomes last last_store
  -- so demand 3 holds of it
  pub meets : Demand3 reserved first calls outcomes last last_store
  -- it keeps the rule for the clock
  pub kept : ClockRule (past_of calls outcomes)
  -- one request was accepted: the first call, at 0
  pub asked : requests (past_of calls outcomes) ≡ record { place = 0; id = 39; time = 0 } ∷ []
  -- it has ended once
  pub ended : endings 0 (past_of calls outcomes) ≡ 1
  -- its frame went out once, with the bytes of example 6
  pub sent : frames 0 (past_of calls outcomes) ≡ case_6 ∷ []

-- a call on an endpoint and its store that keeps its promise
record Made (e : Endpoint) (store : List ℕ) (c : Call) (r : Result) : Type 0 where
  promised : Promise e store c r

-- what a call and a receive are computed with
computed : Unit {0}
unfolding first_of malformed too_long flights two_equal some_of is_live requests_from first_free id_after oldest placed polling.act earliest due seq_after
    payload message body header fields le16 checksum_of checksum_from with_bits with_bit bits_of
computed = tt

heard : Unit {0}
unfolding computed receiving.receive on_message line.receive line.taken line.smallest scan dropped stands rules allowed
heard = tt

-- open
opened : promise.Opened first reserved
unfolding computed
opened = record { answers = refl; next = λ store. refl; sound = refl }

-- the submits
abbrev asking : SubmitAnswer → Endpoint → (store : List ℕ) → Result
asking answer e store = submit_result (record { answer = answer; endpoint = e }) store

submits_39 : (store : List ℕ)
    → Made fresh store (submit (fields_of example_6) [] true 0) (asking (Ok (record { 0 = 39 })) queued store)
unfolding computed
submits_39 store = record { promised = record { answers = refl; leaves = refl; next = refl; sound = refl } }

refuses_249 : (store : List ℕ)
    → Made (in_flight 0) store (submit (fields_of example_6) (zeros 249) false 500) (asking (Err DataOver) (in_flight 0) store)
unfolding computed
refuses_249 store = record { promised = record { answers = refl; leaves = refl; keeps = refl; stores = refl } }

-- the polls, each lent zeros
abbrev Polls : (before : Endpoint) (clock : ℕ) → PollAnswer → (after : Endpoint) (output : List ℕ) → Type 0
Polls before clock answer after output =
    (store : List ℕ)
    → Made before store (poll (zeros (total max_len)) clock) (poll_result (record { answer = answer; endpoint = after }) store output)

sends_18 : Polls queued 0 (Ok (outcome.Sent 18)) (in_flight 0) (front (total max_len) case_6)
unfolding computed
sends_18 store = record { promised = record { answers = refl; leaves = refl; next = refl; sound = refl } }

rests_1000 : Polls (in_flight 0) 0 (Ok (outcome.Quiet (Some 1000))) (in_flight 0) (zeros (total max_len))
unfolding computed
rests_1000 store = record { promised = record { answers = refl; leaves = refl; next = refl; sound = refl } }

rests_3000 : Polls (waiting 0) 0 (Ok (outcome.Quiet (Some 3000))) (waiting 0) (zeros (total max_len))
unfolding computed
rests_3000 store = record { promised = record { answers = refl; leaves = refl; next = refl; sound = refl } }

rests_1 : Polls (waiting 0) 2999 (Ok (outcome.Quiet (Some 1))) (waiting 2999) (zeros (total max_len))
unfolding computed
rests_1 store = record { promised = record { answers = refl; leaves = refl; next = refl; sound = refl } }

ends_39 : Polls (waiting 2999) 3000 (Ok (outcome.Ended (record { id = record { 0 = 39 }; cause = NoResponse }))) (over 3000)
    (zeros (total max_len))
unfolding computed
ends_39 store = record { promised = record { answers = refl; leaves = refl; next = refl; sound = refl } }

rests : Polls (over 3000) 3000 (Ok (outcome.Quiet None)) (over 3000) (zeros (total max_len))
unfolding computed
rests store = record { promised = record { answers = refl; leaves = refl; next = refl; sound = refl } }

rests_later : Polls (over 3000) 12000 (Ok (outcome.Quiet None)) (over 12000) (zeros (total max_len))
unfolding computed
rests_later store = record { promised = record { answers = refl; leaves = refl; next = refl; sound = refl } }

-- the receives: neither earns a word, puts a reply or ends a request
abbrev hearing : Option Item → (taken : ℕ) → Endpoint → (store : List ℕ) → Result
hearing item taken e store =
    receive_result (record {
      answer = Ok (record { item = item; word = None; taken = taken; replied = 0; ending = None });
      endpoint = e;
    }) store (zeros (total 0)) (zeros max_data)

takes_4 : (store rest : List ℕ)
    → Made (in_flight 0) store (receive (take 4 case_3) (zeros (total 0)) (zeros max_data) 0)
    (hearing None 4 (in_flight 4) (take 4 case_3 ++ rest))
unfolding heard
takes_4 store rest = record { promised = record { answers = refl; leaves = refl; next = refl; sound = refl } }

takes_6 : (rest : List ℕ)
    → Made (in_flight 4) (take 4 case_3 ++ rest) (receive (drop 4 case_3) (zeros (total 0)) (zeros max_data) 0)
    (hearing (Some (Message ack (record { 0 = 0 }) 0)) 6 (waiting 0) (take 4 case_3 ++ rest))
unfolding heard
takes_6 rest = record { promised = record { answers = refl; leaves = refl; next = refl; sound = refl } }

-- a call after such a list: the list with it is one, as its contract says
infixl 4 ◌then◌
◌then◌ : {calls : List Call} {outcomes : List Outcome} {e : Endpoint} {store : List ℕ} {c : Call} {r : Result}
    → Chain reserved first calls outcomes e store
    → Made e store c r
    → Chain reserved first (calls ++ (c ∷ [])) (outcomes ++ (outcome_from r ∷ [])) r.endpoint r.store
◌then◌ {calls} {outcomes} {e} {store} {c} {r} chain made = (extends e store c r made.promised reserved first calls outcomes chain).list

listed : Chain reserved first calls outcomes last last_store
listed =
    (begins first reserved opened zero_store).list
    then submits_39 zero_store
    then sends_18 zero_store
    then rests_1000 zero_store
    then refuses_249 zero_store
    then takes_4 zero_store (zeros (store_length - 4))
    then takes_6 (zeros (store_length - 4))
    then rests_3000 last_store
    then rests_1 last_store
    then ends_39 last_store
    then rests last_store
    then rests_later last_store

pub witnessed : Witnessed calls outcomes
unfolding past_from last_asked endings frames requests may_follow keeps_clock_rule
witnessed = record {
  list = listed;
  meets = demand_3 listed;
  kept = test_rule (past_of calls outcomes) refl;
  asked = refl;
  ended = refl;
  sent = refl;
}
