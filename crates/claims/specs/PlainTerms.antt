-- What some rules of document 01 come to, said without the searches of the ledger's definitions: the words in which the statements
-- about faults, useless builds and single requests are made.
use Rattle.std.specs.Prelude.{ℕ, ◌≤◌, true, false, List, [], ◌∷◌, ◌++◌, map, ◌≡◌, length}
use Rattle.std.proofs.Math.Option
use Rattle.std.proofs.Math.Option.{Option, none, some}
use Rattle.command.specs.Payload.{fields_in, rqid_in}
use Rattle.link.specs.Frames.{Frame, due}
use Rattle.ledger.specs.Lists.{All}
use Rattle.ledger.specs.Parts.{in_flight, Request, Ledger}
use Rattle.ledger.specs.Answers.{Ending, sent, ended, quiet, Answer, polled}
use Rattle.ledger.specs.Receiving.{flies, is_sent}
use Rattle.ledger.specs.Polling.{response_time, overdue_in, queued_in}
use Rattle.ledger.specs.Runs.{Entry, Run}
use Rattle.claims.specs.Trace.{Asked, last_asked, frames, live_after}
use Rattle.claims.specs.Clauses.{◌∈◌}

-- the transmissions of the frame of each request, of those in flight
abbrev pub counts : List Request → List (Option ℕ)
counts live = map (λ q. Option.map (λ f. f.transmissions) (flies q)) live

-- the request that a response ends: in flight or waiting, it wants a response, and every field agrees, TID and SID swapped
pub record Matched (l : Ledger) (payload : List ℕ) (x : Ending) : Type 0 where
  pub before : List Request
  pub after : List Request
  pub request : Request
  pub among : l.live ≡ before ++ (request ∷ after)
  pub ended : x.id ≡ request.id
  pub sent : is_sent request.state ≡ true
  pub wanted : request.wanted ≡ true
  pub rqid : request.id ≡ rqid_in payload
  pub tc : request.fields.tc ≡ (fields_in payload).tc
  pub cid : request.fields.cid ≡ (fields_in payload).cid
  pub iid : request.fields.iid ≡ (fields_in payload).iid
  pub tid : request.fields.tid ≡ (fields_in payload).sid
  pub sid : request.fields.sid ≡ (fields_in payload).tid

-- of an ID that an ending or a frame names: there is a request before it that has the ID, and the last such is live
pub record Named (id : ℕ) (before : List Entry) : Type 0 where
  pub asked : last_asked id before ≡ none → ⊥
  pub live : (a : Asked) → last_asked id before ≡ some a → a ∈ live_after before

-- nothing for a poll to do: none is overdue; and none is in flight or queued, or the one in flight is not due
pub data NothingToDo (t : ℕ) (live : List Request) : Type 0 where
  all_wait : All (λ q. overdue_in t q.state ≡ none) live → All (λ q. flies q ≡ none) live
      → All (λ q. queued_in q.state ≡ none) live
      → NothingToDo t live
  one_flies : All (λ q. overdue_in t q.state ≡ none) live → (b a : List Request) (q : Request) (f : Frame) → live ≡ b ++ (q ∷ a)
      → q.state ≡ in_flight f → due f t ≡ false → NothingToDo t live

-- "with the milliseconds to the earliest such deadline, or *no deadline*": none only where nobody is live, else from 1 to 3,000
pub record QuietTime (live : List Request) (time : Option ℕ) : Type 0 where
  pub nobody_waits : time ≡ none → live ≡ []
  pub bounded : (ms : ℕ) → time ≡ some ms → (1 ≤ ms) × (ms ≤ response_time)

-- the count of a frame in flight is how many frames polls have put in their output for its request
pub record Counted (s : Run) (q : Request) (f : Frame) : Type 0 where
  pub request : Asked
  pub last : last_asked q.id s.past ≡ some request
  pub counts : length (frames request.place s.past) ≡ f.transmissions

-- an answer that is *quiet*, and one of a poll that did something
pub record AnsweredQuiet (a : Answer) : Type 0 where
  pub time : Option ℕ
  pub told : a ≡ polled (quiet time)

pub data AnsweredBusy (a : Answer) : Type 0 where
  sends : (n : ℕ) → a ≡ polled (sent n) → AnsweredBusy a
  ends : (x : Ending) → a ≡ polled (ended x) → AnsweredBusy a
