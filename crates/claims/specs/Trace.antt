-- Document 01, "What demand 3 compares": requests, endings and frames as calls and outcomes alone show them. What has happened is a
-- list, newest first, so that the calls before one are those behind it.
use Rattle.std.specs.Prelude.{ℕ, ◌+◌, Bool, true, false, cond as if, List, [], ◌∷◌, ◌++◌, eqb, length, take, drop}
use Rattle.std.proofs.Math.Option.{Option, none, some, map}
use Rattle.message.specs.Bytes.{header_length}
use Rattle.command.specs.Payload.{rqid_in}
use Rattle.ledger.specs.Answers.{Ending, Poll, sent, ended, quiet, Answer, refused, opened, submitted, received, polled}
use Rattle.ledger.specs.Calls.{reading_of}
use Rattle.ledger.specs.Runs.{Entry}

-- "Accepted means not refused."
abbrev pub is_accepted : Answer → Bool
is_accepted (refused number) = false
is_accepted opened = true
is_accepted (submitted id) = true
is_accepted (received r) = true
is_accepted (polled p) = true

-- "A request is an accepted submit.": its place in the list, which is how many calls came before it, its ID, and the reading that
-- it was accepted at
pub record Asked : Type 0 where
  pub place : ℕ
  pub id : ℕ
  pub time : ℕ

-- the ID that an answer issues, if any
abbrev pub id_in : Answer → Option ℕ
id_in (refused number) = none
id_in opened = none
id_in (submitted id) = some id
id_in (received r) = none
id_in (polled p) = none

-- the request that the call at a place is, if it is one
abbrev pub asked_as : Entry → (place id : ℕ) → Asked
asked_as e place id = record { place = place; id = id; time = reading_of e.call }

abbrev pub asked_by : Entry → (place : ℕ) → Option Asked
asked_by e place = map (asked_as e place) (id_in e.answer)

-- the ending that an answer reports, if any
abbrev pub ending_of : Poll → Option Ending
ending_of (sent n) = none
ending_of (ended x) = some x
ending_of (quiet t) = none

abbrev pub ending_in : Answer → Option Ending
ending_in (refused number) = none
ending_in opened = none
ending_in (submitted id) = none
ending_in (received r) = r.ending
ending_in (polled p) = ending_of p

-- the frame that a poll put into its output, if any
abbrev pub first : List (List ℕ) → List ℕ
first [] = []
first (b ∷ bs) = b

abbrev pub sent_by : Poll → (output : List ℕ) → Option (List ℕ)
sent_by (sent n) output = some (take n output)
sent_by (ended x) output = none
sent_by (quiet t) output = none

abbrev pub sent_in : Answer → (output : List ℕ) → Option (List ℕ)
sent_in (refused number) output = none
sent_in opened output = none
sent_in (submitted id) output = none
sent_in (received r) output = none
sent_in (polled p) output = sent_by p output

-- that of a call
abbrev pub frame_in : Entry → Option (List ℕ)
frame_in e = sent_in e.answer (first e.buffers)

-- the ID that a frame names, "in its RQID"
abbrev pub named_by : (frame : List ℕ) → ℕ
named_by frame = rqid_in (drop header_length frame)

-- a request, where it has the ID, or else the last one before it
abbrev pub last_or : (id : ℕ) → Option Asked → Option Asked → Option Asked
last_or id none rest = rest
last_or id (some a) rest = if (eqb a.id id) (some a) rest

-- "the last request before it whose ID it names"
unfoldable pub last_asked : (id : ℕ) → (before : List Entry) → Option Asked
last_asked id [] = none
last_asked id (e ∷ es) = last_or id (asked_by e (length es)) (last_asked id es)

-- "belongs to": the request that a call's ending belongs to, and the one that its frame belongs to
abbrev pub owner : Option ℕ → (before : List Entry) → Option Asked
owner none before = none
owner (some id) before = last_asked id before

abbrev pub ended_by : Entry → (before : List Entry) → Option Asked
ended_by e before = owner (map (λ x. x.id) (ending_in e.answer)) before

abbrev pub sent_for : Entry → (before : List Entry) → Option Asked
sent_for e before = owner (map named_by (frame_in e)) before

-- whether that is the request at a place
abbrev pub is_at : (place : ℕ) → Option Asked → Bool
is_at place none = false
is_at place (some a) = eqb a.place place

-- how often the request at a place has ended
unfoldable pub endings : (place : ℕ) → List Entry → ℕ
endings place [] = 0
endings place (e ∷ es) = if (is_at place (ended_by e es)) 1 0 + endings place es

-- a frame, if there is one
abbrev pub framed : Option (List ℕ) → List (List ℕ)
framed none = []
framed (some bytes) = bytes ∷ []

-- "Its frame goes out as often as polls put one that belongs to it in their output": these frames, newest first
unfoldable pub frames : (place : ℕ) → List Entry → List (List ℕ)
frames place [] = []
frames place (e ∷ es) = if (is_at place (sent_for e es)) (framed (frame_in e)) [] ++ frames place es

-- the requests without one that ended
unfoldable pub without : Option Asked → List Asked → List Asked
without left [] = []
without left (a ∷ rest) = if (is_at a.place left) (without left rest) (a ∷ without left rest)

-- a request that joins, if there is one
abbrev pub joining : Option Asked → List Asked
joining none = []
joining (some a) = a ∷ []

-- "A request is live until an ending that belongs to it.": those live after the calls, oldest first
unfoldable pub live_after : List Entry → List Asked
live_after [] = []
live_after (e ∷ es) = without (ended_by e es) (live_after es) ++ joining (asked_by e (length es))

-- all requests so far, oldest first
unfoldable pub requests : List Entry → List Asked
requests [] = []
requests (e ∷ es) = requests es ++ joining (asked_by e (length es))
