-- Document 01, "The ledger": what it holds.
use Rattle.std.specs.Prelude.{ℕ, suc, Bool, List, [], ◌∷◌}
use Rattle.std.proofs.Math.Option.{Option, none, some}
use Rattle.command.specs.Payload.{Fields}
use Rattle.link.specs.SequenceIds.{first_seq}
use Rattle.link.specs.Frames.{Frame}
use Rattle.link.specs.Repeats.{Seen, none_seen}

-- "at most three live requests": the number, stated here alone; what follows is written over any
abbrev pub live_max : ℕ
live_max = 3

-- "R from 0 to 255": the upper end
abbrev pub reserved_max : ℕ
reserved_max = 255

-- "Each is queued, in flight (SEQ, transmissions, last sent, NAK mark) or waiting (since when)."
pub data State : Type 0 where
  queued : State
  in_flight : Frame → State
  waiting : (since : ℕ) → State

-- a live request: its ID, "what each live request was submitted with" (fields, data bytes, response wanted or not) and its state
pub record Request : Type 0 where
  pub id : ℕ
  pub fields : Fields
  pub bytes : List ℕ
  pub wanted : Bool
  pub state : State

-- "R, the clock, the next SEQ .., the next request ID, the controller's last SEQ .., and .. live requests, oldest first"; beside
-- these "the held bytes". R is how many IDs, from 1 up, are reserved for events
pub record Ledger : Type 0 where
  pub reserved : ℕ
  pub clock : ℕ
  pub next_seq : ℕ
  pub next_id : ℕ
  pub seen : Seen
  pub live : List Request
  pub held : List ℕ

-- "A fresh endpoint has clock 0, next request ID R + 1, nothing live and nothing held."
abbrev pub fresh : (reserved : ℕ) → Ledger
fresh r = record { reserved = r; clock = 0; next_seq = first_seq; next_id = suc r; seen = none_seen; live = []; held = [] }

-- a request in another state
abbrev pub with_state : State → Request → Request
with_state s q = record { id = q.id; fields = q.fields; bytes = q.bytes; wanted = q.wanted; state = s }

-- "the oldest" of some: what was looked for, in whom, and the live requests before and after; or nobody
pub data Search (A : Type 0) : Type 0 where
  nobody : Search A
  somebody : (before : List Request) (it : Request) (what : A) (after : List Request) → Search A

-- what was found behind a request, seen from it
abbrev pub behind : {A : Type 0} → Request → Search A → Search A
behind q nobody = nobody
behind q (somebody before it what after) = somebody (q ∷ before) it what after

-- the request in front, if it shows what is looked for, or else one behind it
abbrev pub front_or : {A : Type 0} → Option A → Request → List Request → Search A → Search A
front_or none q qs rest = behind q rest
front_or (some what) q qs rest = somebody [] q what qs

-- the oldest live request that shows what is looked for
unfoldable pub oldest : {A : Type 0} → (Request → Option A) → List Request → Search A
oldest shows [] = nobody
oldest shows (q ∷ qs) = front_or (shows q) q qs (oldest shows qs)
