-- What the parts of the client do, in the ledger's terms: from the ledger that they find to the one that they leave. The client's own
-- contract does not cite these.
use Rattle.std.specs.Prelude.{ℕ, ◌+◌, ◌≤◌, ◌<◌, true, List, [], ◌∷◌, ◌++◌, ◌≡◌, length}
use Rattle.std.proofs.Math.Option.{some}
use Rattle.message.specs.Bytes.{total, max_len}
use Rattle.message.specs.Writing.{placed}
use Rattle.command.specs.Payload.{Fields, max_data, answers}
use Rattle.link.specs.Frames.{Frame, resend_time, first_sent}
use Rattle.link.specs.Repeats.{Seen, none_seen}
use Rattle.link.specs.SequenceIds.{seq_after}
use Rattle.ledger.specs.Parts.{State, in_flight, Request, Ledger}
use Rattle.ledger.specs.Answers.{no_acknowledgement, sent, ended, quiet, Answer, submitted, received, polled}
use Rattle.ledger.specs.Submitting.{id_after}
use Rattle.ledger.specs.Receiving.{ack_message}
use Rattle.ledger.specs.Calls.{Call, submit, receive, poll}
use Rattle.ledger.specs.Runs.{Outcome}
use Rattle.endpoint.specs.Endpoint.{ledger_of}
use Rattle.endpoint.specs.declared.Endpoint.{Endpoint}
use Rattle.host_answers.specs.Answers.{submit_answer_of, receive_answer_of, poll_answer_of}
use Rattle.host_answers.specs.Answers as returned
use Rattle.host_claims.specs.Chains.{Chain}
use Rattle.host_claims.specs.Claims.{Demand3}
use Rattle.client_parts.specs.Answers.{frame_for, to_ack, to_first, to_second}
use Rattle.client_parts.specs.declared.Readings.{Readings}
use Rattle.client_parts.specs.declared.Asked.{Asked}
use Rattle.client_parts.specs.declared.Heard.{Heard}
use Rattle.client_parts.specs.declared.GivenUp.{GivenUp}

-- a ledger with nothing held and nobody live, and with one live request that wants a response
abbrev pub with_live : (reserved clock seq id : ℕ) (seen : Seen) → List Request → (held : List ℕ) → Ledger
with_live r t seq id seen live held =
    record { reserved = r; clock = t; next_seq = seq; next_id = id; seen = seen; live = live; held = held }

abbrev pub idle : (reserved clock seq id : ℕ) → Seen → Ledger
idle r t seq id seen = with_live r t seq id seen [] []

abbrev pub asking : (id : ℕ) → Fields → (bytes : List ℕ) → State → Request
asking id f bytes s = record { id = id; fields = f; bytes = bytes; wanted = true; state = s }

-- the outcome of a call that lends no buffer, one, or two
abbrev pub told : Answer → (buffers : List (List ℕ)) → Outcome
told a buffers = record { answer = a; buffers = buffers }

-- a list of calls with one call more, and its outcome
abbrev pub and : {A : Type 0} → List A → A → List A
and xs x = xs ++ (x ∷ [])

-- a request that finds nobody live is sent at once
pub record AskedAs (given : ℕ) (begun : returned.Opened) (calls : List Call) (outcomes : List Outcome) (r : Asked) (store : List ℕ)
    (f : Fields) (bytes output exit : List ℕ) (clock reserved seq id : ℕ) (seen : Seen) : Type 0 where
  pub named : submit_answer_of r.id ≡ submitted id
  pub sends : poll_answer_of r.sent ≡ polled (sent (length (frame_for f id bytes seq)))
  pub calm : poll_answer_of r.rests ≡ polled (quiet (some resend_time))
  pub puts : exit ≡ placed 0 (frame_for f id bytes seq) output
  pub ledger : ledger_of r.endpoint store
      ≡ with_live reserved clock (seq_after seq) (id_after reserved id) seen (asking id f bytes (in_flight (first_sent seq clock)) ∷ []) []
  pub list : Chain given begun
      (and (and (and calls (submit f bytes true clock)) (poll output clock)) (poll (placed 0 (frame_for f id bytes seq) output) clock))
      (and (and (and outcomes (told (submitted id) []))
      (told (polled (sent (length (frame_for f id bytes seq)))) (placed 0 (frame_for f id bytes seq) output ∷ [])))
      (told (polled (quiet (some resend_time))) (placed 0 (frame_for f id bytes seq) output ∷ [])))
      r.endpoint store

abbrev pub Asks : Asked → Endpoint → (store store_exit : List ℕ) → Fields → (bytes output exit : List ℕ) (clock : ℕ) → Type 0
Asks r e store store_exit f bytes output exit clock =
    (given : ℕ) (begun : returned.Opened) (calls : List Call) (outcomes : List Outcome) (reserved before seq id : ℕ) (seen : Seen)
    → Chain given begun calls outcomes e store
    → ledger_of e store ≡ idle reserved before seq id seen → before ≤ clock → length bytes ≤ max_data → total max_len ≤ length output
    → AskedAs given begun calls outcomes r store_exit f bytes output exit clock reserved seq id seen

-- a request in flight is acknowledged, and its response arrives in two pieces
pub record HeardAs (given : ℕ) (begun : returned.Opened) (calls : List Call) (outcomes : List Outcome) (r : Heard) (store : List ℕ)
    (acknowledgement first second reply reply_exit buffer buffer_exit : List ℕ) (clock reserved seq next id : ℕ) (frame : Frame) (back : Fields)
    (back_seq : ℕ) (answered : List ℕ) : Type 0 where
  pub acks : receive_answer_of r.acknowledged ≡ received (to_ack frame.seq)
  pub waits : receive_answer_of r.waits ≡ received (to_first first)
  pub ends : receive_answer_of r.answered ≡ received (to_second back id back_seq answered second)
  pub replies : reply_exit ≡ placed 0 (ack_message back_seq) reply
  pub fills : buffer_exit ≡ placed 0 answered buffer
  pub ledger : ledger_of r.endpoint store ≡ idle reserved clock seq next (some back_seq)
  pub list : Chain given begun
      (and (and (and calls (receive acknowledgement reply buffer clock)) (receive first reply buffer clock))
      (receive second reply buffer clock))
      (and (and (and outcomes (told (received (to_ack frame.seq)) (reply ∷ buffer ∷ [])))
      (told (received (to_first first)) (reply ∷ buffer ∷ [])))
      (told (received (to_second back id back_seq answered second))
      (placed 0 (ack_message back_seq) reply ∷ placed 0 answered buffer ∷ [])))
      r.endpoint store

abbrev pub Hears : Heard → Endpoint → (store store_exit acknowledgement first second reply reply_exit buffer buffer_exit : List ℕ)
    → (clock : ℕ) → Type 0
Hears r e store store_exit acknowledgement first second reply reply_exit buffer buffer_exit clock =
    (given : ℕ) (begun : returned.Opened) (calls : List Call) (outcomes : List Outcome) (reserved before seq next id : ℕ) (f : Fields)
    (bytes : List ℕ) (frame : Frame) (back : Fields) (back_seq : ℕ) (answered : List ℕ)
    → Chain given begun calls outcomes e store
    → ledger_of e store ≡ with_live reserved before seq next none_seen (asking id f bytes (in_flight frame) ∷ []) []
    → before ≤ clock → reserved < id → total 0 ≤ length reply → max_data ≤ length buffer
    → acknowledgement ≡ ack_message frame.seq
    → first ++ second ≡ frame_for back id answered back_seq → answers f back ≡ true → length answered ≤ max_data → 0 < length second
    → HeardAs given begun calls outcomes r store_exit acknowledgement first second reply reply_exit buffer buffer_exit clock reserved seq next id
    frame back back_seq answered

-- a request whose frame has gone out once, and of which nothing is heard, is given up
pub record GivenUpAs (given : ℕ) (begun : returned.Opened) (calls : List Call) (outcomes : List Outcome) (r : GivenUp) (store : List ℕ)
    (output exit : List ℕ) (at : Readings) (id size : ℕ) : Type 0 where
  pub second : poll_answer_of r.second ≡ polled (sent size)
  pub rests : poll_answer_of r.rests ≡ polled (quiet (some resend_time))
  pub third : poll_answer_of r.third ≡ polled (sent size)
  pub calm : poll_answer_of r.calm ≡ polled (quiet (some resend_time))
  pub ends : poll_answer_of r.ended ≡ polled (ended (record { id = id; cause = no_acknowledgement }))
  pub stays : exit ≡ output
  pub meets : Demand3 given begun
      (and (and (and (and (and calls (poll output at.again)) (poll output at.again)) (poll output at.last))
      (poll output at.last)) (poll output at.over))
      (and (and (and (and (and outcomes (told (polled (sent size)) (output ∷ [])))
      (told (polled (quiet (some resend_time))) (output ∷ [])))
      (told (polled (sent size)) (output ∷ [])))
      (told (polled (quiet (some resend_time))) (output ∷ [])))
      (told (polled (ended (record { id = id; cause = no_acknowledgement }))) (output ∷ [])))
      r.endpoint store

abbrev pub GivesUp : GivenUp → Endpoint → (store store_exit output exit : List ℕ) → Readings → Type 0
GivesUp r e store store_exit output exit at =
    (given : ℕ) (begun : returned.Opened) (calls : List Call) (outcomes : List Outcome) (reserved before seq next id sequence : ℕ) (seen : Seen)
    (f : Fields) (bytes : List ℕ)
    → Chain given begun calls outcomes e store
    → ledger_of e store
    ≡ with_live reserved before seq next seen (asking id f bytes (in_flight (first_sent sequence before)) ∷ []) []
    → at.again ≡ before + resend_time → at.last ≡ at.again + resend_time → at.over ≡ at.last + resend_time
    → total max_len ≤ length output → placed 0 (frame_for f id bytes sequence) output ≡ output
    → GivenUpAs given begun calls outcomes r store_exit output exit at id (length (frame_for f id bytes sequence))
