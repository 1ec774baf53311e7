-- Document 01, "The ledger": which of its parts an accepted call may change, and how. All others are as they were.
use Rattle.std.specs.Prelude.{ℕ, zero, suc, ◌<◌, Bool, true, false, cond as if, List, [], ◌∷◌, ◌++◌, ◌≡◌, eqb, length}
use Rattle.std.proofs.Math.Option.{Option, none, some}
use Rattle.message.specs.Bytes.{data_seq}
use Rattle.message.specs.Items.{damaged_header, damaged_payload, forbidden, message}
use Rattle.line.specs.Receiving as line
use Rattle.line.specs.Receiving.{more, item}
use Rattle.command.specs.Payload.{Fields}
use Rattle.link.specs.SequenceIds.{seq_after}
use Rattle.link.specs.Frames.{Frame, first_sent, with_mark, sent_again}
use Rattle.link.specs.Repeats.{Seen}
use Rattle.ledger.specs.Parts.{queued, in_flight, waiting, Request, Ledger, with_state}
use Rattle.ledger.specs.Answers as answers
use Rattle.ledger.specs.Answers.{Ending, no_response, no_acknowledgement, Receipt, Poll, sent, ended, quiet}
use Rattle.ledger.specs.Submitting.{id_after, is_live}
use Rattle.ledger.specs.Receiving.{is_sent}
use Rattle.ledger.specs.Polling.{frame_bytes}
use Rattle.ledger.specs.Refusals.{flights}

-- the IDs from one on in the order in which they are issued: the one so many steps after it
unfoldable pub ids_on : (reserved steps id : ℕ) → ℕ
ids_on r zero id = id
ids_on r (suc n) id = ids_on r n (id_after r id)

-- "The ID is the first one not live, from the next request ID on": those that are passed over are live, and it is not
pub record FirstNotLive (l : Ledger) (id : ℕ) : Type 0 where
  pub steps : ℕ
  pub place : id ≡ ids_on l.reserved steps l.next_id
  pub passed : (k : ℕ) → k < steps → is_live (ids_on l.reserved k l.next_id) l.live ≡ true
  pub free : is_live id l.live ≡ false

-- a submit that answers an ID: the clock, the next request ID and the live requests change, "The request joins as queued"
pub record SubmitChanges (l : Ledger) (fields : Fields) (bytes : List ℕ) (wanted : Bool) (reading id : ℕ) (n : Ledger) : Type 0 where
  pub clock : n.clock ≡ reading
  pub next_id : n.next_id ≡ id_after l.reserved id
  pub live : n.live ≡ l.live ++ (record { id = id; fields = fields; bytes = bytes; wanted = wanted; state = queued } ∷ [])
  -- and no more
  pub reserved : n.reserved ≡ l.reserved
  pub next_seq : n.next_seq ≡ l.next_seq
  pub seen : n.seen ≡ l.seen
  pub held : n.held ≡ l.held

-- the controller's last SEQ after an item: a DATA_SEQ frame's own, whatever it carries; no other item changes it
abbrev pub last_seq_after : line.Answer → Seen → Seen
last_seq_after more seen = seen
last_seq_after (item damaged_header) seen = seen
last_seq_after (item forbidden) seen = seen
last_seq_after (item damaged_payload) seen = seen
last_seq_after (item (message type seq len)) seen = if (eqb type data_seq) (some seq) seen

-- what a receive may do to the live requests, and the ending that it then answers: one at most waits from this reading, is marked or
-- leaves, and only one that leaves is named. Each keeps what it was submitted with, and all others stay as they are, in their order
pub data Hears (clock : ℕ) (live after : List Request) (ending : Option Ending) : Type 0 where
  nobody : ending ≡ none → after ≡ live → Hears clock live after ending
  waits : (older : List Request) (it : Request) (newer : List Request) (f : Frame) → live ≡ older ++ (it ∷ newer)
      → it.state ≡ in_flight f → it.wanted ≡ true → ending ≡ none
      → after ≡ older ++ (with_state (waiting clock) it ∷ newer) → Hears clock live after ending
  marked : (older : List Request) (it : Request) (newer : List Request) (f : Frame) → live ≡ older ++ (it ∷ newer)
      → it.state ≡ in_flight f → ending ≡ none
      → after ≡ older ++ (with_state (in_flight (with_mark f)) it ∷ newer) → Hears clock live after ending
  acknowledged : (older : List Request) (it : Request) (newer : List Request) (f : Frame) → live ≡ older ++ (it ∷ newer)
      → it.state ≡ in_flight f → it.wanted ≡ false → ending ≡ some (record { id = it.id; cause = answers.Cause.acknowledged })
      → after ≡ older ++ newer → Hears clock live after ending
  answered : (older : List Request) (it : Request) (newer : List Request) → live ≡ older ++ (it ∷ newer)
      → is_sent it.state ≡ true → it.wanted ≡ true → ending ≡ some (record { id = it.id; cause = answers.Cause.response })
      → after ≡ older ++ newer → Hears clock live after ending

-- a receive that answers an item or *more*: the clock, the last SEQ, the live requests and the held bytes change
pub record ReceiveChanges (l : Ledger) (bytes : List ℕ) (reading : ℕ) (r : Receipt) (n : Ledger) : Type 0 where
  pub clock : n.clock ≡ reading
  pub seen : n.seen ≡ last_seq_after r.item l.seen
  pub live : Hears reading l.live n.live r.ending
  pub held : n.held ≡ (line.receive l.held bytes).held
  -- and no more
  pub reserved : n.reserved ≡ l.reserved
  pub next_seq : n.next_seq ≡ l.next_seq
  pub next_id : n.next_id ≡ l.next_id

-- what a poll may do to them, and what it then answers: one at most is sent for the first time, is sent again or leaves
pub data Moves (clock next_seq : ℕ) (live after : List Request) (answer : Poll) : Type 0 where
  nobody : (time : Option ℕ) → answer ≡ quiet time → after ≡ live → Moves clock next_seq live after answer
  first : (older : List Request) (it : Request) (newer : List Request) → live ≡ older ++ (it ∷ newer) → it.state ≡ queued
      → answer ≡ sent (length (frame_bytes it next_seq))
      → after ≡ older ++ (with_state (in_flight (first_sent next_seq clock)) it ∷ newer) → Moves clock next_seq live after answer
  again : (older : List Request) (it : Request) (newer : List Request) (f : Frame) → live ≡ older ++ (it ∷ newer)
      → it.state ≡ in_flight f → answer ≡ sent (length (frame_bytes it f.seq))
      → after ≡ older ++ (with_state (in_flight (sent_again f clock)) it ∷ newer) → Moves clock next_seq live after answer
  unanswered : (older : List Request) (it : Request) (newer : List Request) (since : ℕ) → live ≡ older ++ (it ∷ newer)
      → it.state ≡ waiting since → answer ≡ ended (record { id = it.id; cause = no_response })
      → after ≡ older ++ newer → Moves clock next_seq live after answer
  unacknowledged : (older : List Request) (it : Request) (newer : List Request) (f : Frame) → live ≡ older ++ (it ∷ newer)
      → it.state ≡ in_flight f → answer ≡ ended (record { id = it.id; cause = no_acknowledgement })
      → after ≡ older ++ newer → Moves clock next_seq live after answer

-- the next SEQ after a poll, by how many were in flight: a frame that is sent where none is in flight uses it up
abbrev pub next_seq_after : Poll → (in_flight seq : ℕ) → ℕ
next_seq_after (sent n) zero seq = seq_after seq
next_seq_after (sent n) (suc k) seq = seq
next_seq_after (ended x) k seq = seq
next_seq_after (quiet time) k seq = seq

-- a poll that sends, ends or is quiet: the clock, the next SEQ and the live requests change
pub record PollChanges (l : Ledger) (reading : ℕ) (p : Poll) (n : Ledger) : Type 0 where
  pub clock : n.clock ≡ reading
  pub next_seq : n.next_seq ≡ next_seq_after p (flights l.live) l.next_seq
  pub live : Moves reading l.next_seq l.live n.live p
  -- and no more
  pub reserved : n.reserved ≡ l.reserved
  pub next_id : n.next_id ≡ l.next_id
  pub seen : n.seen ≡ l.seen
  pub held : n.held ≡ l.held
