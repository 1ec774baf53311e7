-- `host_sending::put_frame` meets its contract: the request's fields, ID and data, with the frame's SEQ.
use Prim.Native.Nat.{ℕ, ◌+◌, ◌-◌, ◌≤◌, ◌<◌}
use mathlib.Core.List.{List}
use mathlib.Core.Path.{◌≡◌}
use native.Mathlib.Omega.{arith}
use lib.ListN.{length, take, drop, get_or, length-take}
use Rattle.message.specs.Bytes.{message, data_seq}
use Rattle.command.specs.Payload.{max_data, payload}
use Rattle.command.specs.Promises.{fields_of}
use Rattle.ledger.specs.Parts.{live_max}
use Rattle.ledger.specs.Polling.{frame_bytes}
use Rattle.endpoint.specs.Endpoint.{room_place, live_of}
use Rattle.endpoint.specs.Places.{at}
use Rattle.endpoint.specs.declared.Request.{Request}
use Rattle.endpoint.proofs.Rows.{blank_row}
use Rattle.live_changes.specs.declared.Live.{Live}
use Rattle.live_changes.proofs.Becoming.{live_at, len_at}
use Rattle.frames.specs.Promises.{Put}
use Rattle.host_sending.proofs.put_frame.Goals as goal

module _ (live : Live) (full : length live.requests.rows ≡ live_max) (row : ℕ) (less : row < live.requests.count) where
  abbrev q : Request
  q = get_or live.requests.rows row blank_row

  -- the data of the request in a row are within their room
  short : q.len ≤ max_data
  short = len_at live.requests full live.fits row less

  -- the part of the store that is lent is the room's
  whole : (store : List ℕ) (place seq count : ℕ) (entry exit : List ℕ) → place ≡ room_place row
      → Put count (message data_seq seq (payload (fields_of q.fields) q.id.0 (take (place + q.len - place) (drop place store)))) entry exit
      → Put count (frame_bytes (at row (live_of live.requests store)) seq) entry exit
  whole store place seq count entry exit there put =
      let n : place + q.len - place ≡ q.len = omega arith in
      rw (live_at live.requests full live.fits store row less, ← there) (rw n at put)

pub overflow_add-at : goal.overflow_add-at
overflow_add-at c =
    let few = short c.args.live c.well_formed.0.1.1.0.1.1.0.1.0.1 c.args.row c.requires.0 in omega arith

pub slice_bounds-put_command-end : goal.slice_bounds-put_command-end
slice_bounds-put_command-end c =
    let few = short c.args.live c.well_formed.0.1.1.0.1.1.0.1.0.1 c.args.row c.requires.0 in omega arith

pub put_command-requires : goal.put_command-requires
put_command-requires c =
    let few = short c.args.live c.well_formed.0.1.1.0.1.1.0.1.0.1 c.args.row c.requires.0 in
    (c.requires.1, simp length-take (omega arith))

pub returns : goal.returns
returns c =
    let a = c.args in
    whole a.live c.well_formed.0.1.1.0.1.1.0.1.0.1 a.row c.requires.0 a.store.now c.place_of-at.result a.frame.seq.0 c.put_command.result
    a.output.now c.put_command.new.output c.place_of-at.ensures c.put_command.ensures
