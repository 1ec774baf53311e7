-- Document 01, "Receive replies and acts by item".
use Rattle.std.specs.Prelude.{ℕ, Bool, true, false, not, ◌&&◌, cond as if, List, [], ◌∷◌, ◌++◌, eqb, leb, length}
use Rattle.std.proofs.Math.Option.{Option, none, some}
use Rattle.message.specs.Bytes.{message, ack, nak, data_seq}
use Rattle.message.specs.Items as items
use Rattle.message.specs.Items.{damaged_header, damaged_payload, forbidden}
use Rattle.message.specs.Writing.{placed}
use Rattle.line.specs.Receiving as line
use Rattle.line.specs.Receiving.{more, item}
use Rattle.command.specs.Payload.{is_command, fields_in, rqid_in, data_in, answers}
use Rattle.link.specs.Frames.{Frame, acknowledged_by, with_mark}
use Rattle.link.specs.Repeats.{Seen, is_repeat, seen_after}
use Rattle.ledger.specs.Parts.{State, queued, in_flight, waiting, Request, Ledger, with_state, Search, nobody, somebody, oldest}
use Rattle.ledger.specs.Answers as answer
use Rattle.ledger.specs.Answers.{Cause, acknowledged, Ending, Command, Word, no_word, stray, repeat, not_command, event, unmatched, Done, received}

-- what an item does: the word that it earns, the reply, the ending, the bytes for the data buffer, and the controller's last SEQ
-- and the live requests afterwards
pub record Act : Type 0 where
  pub word : Word
  pub reply : List ℕ
  pub ending : Option Ending
  pub bytes : List ℕ
  pub seen : Seen
  pub live : List Request

-- the frame of a request in flight
abbrev pub frame_in : State → Option Frame
frame_in queued = none
frame_in (in_flight f) = some f
frame_in (waiting since) = none

abbrev pub flies : Request → Option Frame
flies q = frame_in q.state

-- what is looked for, where a test passes
abbrev pub provided : {A : Type 0} → Bool → A → Option A
provided passes what = if passes (some what) none

-- "ACK with the SEQ in flight"
abbrev pub acknowledged_in : (seq : ℕ) → State → Option Frame
acknowledged_in seq queued = none
acknowledged_in seq (in_flight f) = provided (acknowledged_by f seq) f
acknowledged_in seq (waiting since) = none

-- "in flight or waiting"
abbrev pub is_sent : State → Bool
is_sent queued = false
is_sent (in_flight f) = true
is_sent (waiting since) = true

-- "A request in flight or waiting that wants a response, with equal RQID, TC, CID, IID, and TID and SID swapped"
unfoldable pub matches : Command → Request → Bool
matches c q = is_sent q.state && (q.wanted && (eqb q.id c.rqid && answers q.fields c.fields))

-- "the command's fields and data length"
abbrev pub command_in : (payload : List ℕ) → Command
command_in payload = record { fields = fields_in payload; rqid = rqid_in payload; length = length (data_in payload) }

-- the replies; "A written NAK has SEQ 0"
abbrev pub nak_message : List ℕ
nak_message = message nak 0 []

abbrev pub ack_message : (seq : ℕ) → List ℕ
ack_message seq = message ack seq []

-- an act with a reply, and one after which a SEQ was seen
abbrev pub replying : (reply : List ℕ) → Act → Act
replying reply a = record { word = a.word; reply = reply; ending = a.ending; bytes = a.bytes; seen = a.seen; live = a.live }

abbrev pub remembering : Seen → Act → Act
remembering seen a = record { word = a.word; reply = a.reply; ending = a.ending; bytes = a.bytes; seen = seen; live = a.live }

module _ (l : Ledger) (clock : ℕ) where
  -- it earns a word and does no more
  abbrev pub only : Word → Act
  only word = record { word = word; reply = []; ending = none; bytes = []; seen = l.seen; live = l.live }

  -- a request goes into another state
  abbrev pub moves : State → (before : List Request) (it : Request) (after : List Request) → Act
  moves s before it after =
      record { word = no_word; reply = []; ending = none; bytes = []; seen = l.seen; live = before ++ (with_state s it ∷ after) }

  -- a request ends: "An ended request leaves"
  abbrev pub ends : Word → Cause → (bytes : List ℕ) (before : List Request) (it : Request) (after : List Request) → Act
  ends word cause bytes before it after = record {
    word = word;
    reply = [];
    ending = some (record { id = it.id; cause = cause });
    bytes = bytes;
    seen = l.seen;
    live = before ++ after;
  }

  -- ACK: "response wanted, it waits from this reading; otherwise it ends, *acknowledged*. Any other ACK: *stray*."
  abbrev pub on_ack : (acknowledged : Search Frame) → Act
  on_ack nobody = only stray
  on_ack (somebody before it f after) =
      if it.wanted (moves (waiting clock) before it after) (ends no_word acknowledged [] before it after)

  -- "NAK: marks the frame in flight; none in flight: *stray*."
  abbrev pub on_nak : (flight : Search Frame) → Act
  on_nak nobody = only stray
  on_nak (somebody before it f after) = moves (in_flight (with_mark f)) before it after

  -- the request that matches: "it ends, *response*. Otherwise *unmatched*."
  abbrev pub on_response : Command → (bytes : List ℕ) (matching : Search (Unit {0})) → Act
  on_response c bytes nobody = only (unmatched c)
  on_response c bytes (somebody before it what after) = ends (answer.Word.response c) answer.Cause.response bytes before it after

  -- "Then: LEN under 8 or first byte not 0x80: *not a command*. RQID 1 to R: *event*." Then a response or *unmatched*
  unfoldable pub on_data : (payload : List ℕ) → Act
  on_data payload =
      let c = command_in payload in
      if (not (is_command payload)) (only not_command)
      (if (leb 1 c.rqid && leb c.rqid l.reserved)
      (record { word = event c; reply = []; ending = none; bytes = data_in payload; seen = l.seen; live = l.live })
      (on_response c (data_in payload) (oldest (λ q. provided (matches c q) tt) l.live)))

  -- "DATA_SEQ: reply ACK with its SEQ. If its SEQ equals the controller's last SEQ, item *repeat* and nothing more; otherwise that
  -- becomes the last SEQ."
  abbrev pub on_sequenced : (seq : ℕ) (payload : List ℕ) → Act
  on_sequenced seq payload =
      replying (ack_message seq) (if (is_repeat l.seen seq) (only repeat) (remembering (seen_after l.seen seq) (on_data payload)))

  -- a message by its TYPE; "DATA_NSQ: no reply, no comparison"
  unfoldable pub on_message : (type seq : ℕ) (payload : List ℕ) → Act
  on_message type seq payload =
      if (eqb type ack) (on_ack (oldest (λ q. acknowledged_in seq q.state) l.live))
      (if (eqb type nak) (on_nak (oldest flies l.live))
      (if (eqb type data_seq) (on_sequenced seq payload)
      (on_data payload)))

  -- an item: "Damaged header or payload: reply NAK, whatever TYPE the header shows (house). Forbidden: no reply."
  abbrev pub act : line.Answer → (payload : List ℕ) → Act
  act more payload = only no_word
  act (item damaged_header) payload = replying nak_message (only no_word)
  act (item forbidden) payload = only no_word
  act (item damaged_payload) payload = replying nak_message (only no_word)
  act (item (items.message type seq len)) payload = on_message type seq payload

-- the same with the bytes of a call: "A reply .. stands at the front of its buffer; the rest is unchanged.", "Events and responses
-- put their data at the front of the lent data buffer; no other item touches it."
abbrev pub received_as : Ledger → line.Received → Act → (reply buffer : List ℕ) (clock : ℕ) → Done
received_as l r a reply buffer clock = record {
  answer = received (record {
    item = r.answer;
    word = a.word;
    taken = r.taken;
    replied = length a.reply;
    ending = a.ending;
  });
  buffers = placed 0 a.reply reply ∷ placed 0 a.bytes buffer ∷ [];
  next = record {
    reserved = l.reserved;
    clock = clock;
    next_seq = l.next_seq;
    next_id = l.next_id;
    seen = a.seen;
    live = a.live;
    held = r.held;
  };
}

-- a receive that the table does not refuse
unfoldable pub receive : Ledger → (bytes reply buffer : List ℕ) (clock : ℕ) → Done
receive l bytes reply buffer clock =
    let r = line.receive l.held bytes in received_as l r (act l clock r.answer r.payload) reply buffer clock
