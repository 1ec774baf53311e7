-- The ledger that an endpoint and its store stand for (document 01, "The ledger").
use Rattle.std.specs.Prelude.{ℕ, suc, ◌+◌, ◌*◌, List, [], ◌∷◌, take, drop}
use Rattle.line.specs.Receiving.{held_max}
use Rattle.command.specs.Payload.{max_data}
use Rattle.command.specs.Promises.{fields_of}
use Rattle.link.specs.Promises.{frame_of, seen_of}
use Rattle.ledger.specs.Parts as ledger
use Rattle.ledger.specs.Parts.{Ledger, live_max, queued, in_flight, waiting}
use Rattle.endpoint.specs.declared.State.{State}
use Rattle.endpoint.specs.declared.State.TheVariants.{Queued, InFlight, Waiting}
use Rattle.endpoint.specs.declared.Request.{Request}
use Rattle.endpoint.specs.declared.Requests.{Requests}
use Rattle.endpoint.specs.declared.Endpoint.{Endpoint}

-- "Each is queued, in flight (SEQ, transmissions, last sent, NAK mark) or waiting (since when)."
abbrev pub state_of : State → ledger.State
state_of Queued = queued
state_of (InFlight f) = in_flight (frame_of f)
state_of (Waiting since) = waiting since

-- a live request, with the bytes of its data
abbrev pub request_of : Request → (bytes : List ℕ) → ledger.Request
request_of q bytes = record {
  id = q.id.0;
  fields = fields_of q.fields;
  bytes = bytes;
  wanted = q.wanted;
  state = state_of q.state;
}

-- the store: the held bytes, then a room of data bytes for each live request; where a room begins, and how long a store is
abbrev pub room_place : (row : ℕ) → ℕ
room_place i = held_max + i * max_data

abbrev pub store_length : ℕ
store_length = room_place live_max

-- the first n bytes of a room
abbrev pub room_at : (store : List ℕ) (row n : ℕ) → List ℕ
room_at store i n = take n (drop (room_place i) store)

-- requests in rows from one on, each with the bytes in its room
unfoldable pub requests_from : (row : ℕ) → List Request → (store : List ℕ) → List ledger.Request
requests_from i [] store = []
requests_from i (q ∷ qs) store = request_of q (room_at store i q.len) ∷ requests_from (suc i) qs store

-- the rows in use, and "live requests, oldest first"
abbrev pub rows_of : Requests → List Request
rows_of live = take live.count live.rows

abbrev pub live_of : Requests → (store : List ℕ) → List ledger.Request
live_of live store = requests_from 0 (rows_of live) store

-- "R, the clock, the next SEQ .., the next request ID, the controller's last SEQ .., and .. live requests"; and "the held bytes", at the
-- front of the store
abbrev pub ledger_of : Endpoint → (store : List ℕ) → Ledger
ledger_of e store = record {
  reserved = e.reserved;
  clock = e.clock;
  next_seq = e.seq.0;
  next_id = e.next.0;
  seen = seen_of e.seen;
  live = live_of e.live store;
  held = take e.held store;
}
