-- The live requests by their places, oldest first; and rows that fit their array and their rooms.
use Rattle.std.specs.Prelude.{ℕ, suc, ◌≤◌, false, List, [], ◌≡◌, drop, get_or}
use Rattle.ledger.specs.Parts.{live_max, queued, Request}
use Rattle.endpoint.specs.Endpoint.{rows_of}
use Rattle.endpoint.specs.Malformed.{too_long}
use Rattle.endpoint.specs.declared.Requests.{Requests}

-- a request that stands for none
abbrev pub blank : Request
blank = record {
  id = 0;
  fields = record { tc = 0; tid = 0; sid = 0; iid = 0; cid = 0 };
  bytes = [];
  wanted = false;
  state = queued;
}

-- the live request at a place, and those after it
abbrev pub at : (place : ℕ) → List Request → Request
at i live = get_or live i blank

abbrev pub after : (place : ℕ) → List Request → List Request
after i live = drop (suc i) live

-- the rows are within their array, and the data of each within its room
pub record Fits (live : Requests) : Type 0 where
  pub few : live.count ≤ live_max
  pub short : too_long (rows_of live) ≡ false
