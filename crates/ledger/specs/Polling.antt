-- Document 01, "Poll does the first that applies".
use Rattle.std.specs.Prelude.{ℕ, ◌+◌, ◌-◌, min, cond as if, List, [], ◌∷◌, ◌++◌, leb, length}
use Rattle.std.proofs.Math.Option.{Option, none, some, map}
use Rattle.message.specs.Bytes.{message, data_seq}
use Rattle.message.specs.Writing.{placed}
use Rattle.command.specs.Payload.{payload}
use Rattle.link.specs.SequenceIds.{seq_after}
use Rattle.link.specs.Frames.{Frame, first_sent, due, may_go_again, sent_again, deadline}
use Rattle.ledger.specs.Parts.{State, queued, in_flight, waiting, Request, Ledger, with_state, Search, nobody, somebody, oldest}
use Rattle.ledger.specs.Answers.{Cause, no_response, no_acknowledgement, Poll, sent, ended, quiet, Done, polled}
use Rattle.ledger.specs.Receiving.{provided, flies}

-- "at least 3,000 ms (house)": how long a request waits for its response
abbrev pub response_time : ℕ
response_time = 3000

-- the bytes of a request's frame: "sent as DATA_SEQ"
abbrev pub frame_bytes : Request → (seq : ℕ) → List ℕ
frame_bytes q seq = message data_seq seq (payload q.fields q.id q.bytes)

-- what a poll does: its answer, the bytes that it sends, and the next SEQ and the live requests afterwards
pub data Act : Type 0 where
  does : (answer : Poll) (bytes : List ℕ) (next_seq : ℕ) (live : List Request) → Act

-- "waiting .. with clock minus since at least 3,000 ms"
abbrev pub overdue_in : (clock : ℕ) → State → Option (Unit {0})
overdue_in clock queued = none
overdue_in clock (in_flight f) = none
overdue_in clock (waiting since) = provided (leb response_time (clock - since)) tt

-- queued
abbrev pub queued_in : State → Option (Unit {0})
queued_in queued = some tt
queued_in (in_flight f) = none
queued_in (waiting since) = none

-- "to the earliest such deadline": the deadline of a request, the earlier of two, the earliest of all
abbrev pub deadline_in : State → Option ℕ
deadline_in queued = none
deadline_in (in_flight f) = some (deadline f)
deadline_in (waiting since) = some (since + response_time)

abbrev pub earlier : Option ℕ → Option ℕ → Option ℕ
earlier none b = b
earlier (some a) none = some a
earlier (some a) (some b) = some (min a b)

unfoldable pub earliest : List Request → Option ℕ
earliest [] = none
earliest (q ∷ qs) = earlier (deadline_in q.state) (earliest qs)

-- the one, where it applies, or else the other
abbrev pub or_else : Option Act → Act → Act
or_else none other = other
or_else (some a) other = a

module _ (l : Ledger) (clock : ℕ) where
  -- a request ends: "An ended request leaves"
  abbrev pub ends : Cause → (before : List Request) (it : Request) (after : List Request) → Act
  ends cause before it after = does (ended (record { id = it.id; cause = cause })) [] l.next_seq (before ++ after)

  -- a request's frame is sent, and is in flight
  abbrev pub sends : Frame → (next_seq : ℕ) (before : List Request) (it : Request) (after : List Request) → Act
  sends f next_seq before it after =
      let bytes = frame_bytes it f.seq in does (sent (length bytes)) bytes next_seq (before ++ (with_state (in_flight f) it ∷ after))

  -- 1. "The oldest waiting request with clock minus since at least 3,000 ms (house) ends, *no response*."
  abbrev pub step1 : (overdue : Search (Unit {0})) → Option Act
  step1 nobody = none
  step1 (somebody before it what after) = some (ends no_response before it after)

  -- 2. "The frame in flight is due if .. Due with fewer than 3 transmissions: sent again, the same bytes, mark cleared. Due with 3:
  -- ends, *no acknowledgement*."
  abbrev pub step2 : (flight : Search Frame) → Option Act
  step2 nobody = none
  step2 (somebody before it f after) =
      if (due f clock)
      (some (if (may_go_again f) (sends (sent_again f clock) l.next_seq before it after) (ends no_acknowledgement before it after)))
      none

  -- 3. "None in flight and one queued: the oldest is sent as DATA_SEQ with the next SEQ, transmissions 1."
  abbrev pub step3 : (flight : Search Frame) (queue : Search (Unit {0})) → Option Act
  step3 (somebody before it f after) queue = none
  step3 nobody nobody = none
  step3 nobody (somebody before it what after) = some (sends (first_sent l.next_seq clock) (seq_after l.next_seq) before it after)

  -- 4. "*Quiet*, with the milliseconds to the earliest such deadline, or *no deadline*."
  abbrev pub step4 : Act
  step4 = does (quiet (map (◌- clock) (earliest l.live))) [] l.next_seq l.live

  -- "does the first that applies"
  unfoldable pub act : Act
  act =
      let overdue = oldest (λ q. overdue_in clock q.state) l.live in
      let flight = oldest flies l.live in
      let queue = oldest (λ q. queued_in q.state) l.live in
      or_else (step1 overdue) (or_else (step2 flight) (or_else (step3 flight queue) step4))

-- the same with the output of a call: "a polled message stands at the front of its buffer; the rest is unchanged"
abbrev pub polled_as : Ledger → Act → (output : List ℕ) (clock : ℕ) → Done
polled_as l (does answer bytes next_seq live) output clock = record {
  answer = polled answer;
  buffers = placed 0 bytes output ∷ [];
  next = record {
    reserved = l.reserved;
    clock = clock;
    next_seq = next_seq;
    next_id = l.next_id;
    seen = l.seen;
    live = live;
    held = l.held;
  };
}

-- a poll that the table does not refuse
abbrev pub poll : Ledger → (output : List ℕ) (clock : ℕ) → Done
poll l output clock = polled_as l (act l clock) output clock
