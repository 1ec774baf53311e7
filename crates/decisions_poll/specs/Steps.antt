-- What a poll's step does to a ledger.
use Rattle.std.specs.Prelude.{ℕ, ◌<◌, cond as if, Option, Some, None, List, ◌≡◌, take}
use Rattle.link.specs.Promises.{frame_of}
use Rattle.link.specs.Frames as link
use Rattle.link.specs.Frames.{first_sent, due, may_go_again, sent_again}
use Rattle.link.specs.SequenceIds.{seq_after}
use Rattle.ledger.specs.Parts.{Ledger}
use Rattle.ledger.specs.Answers.{no_acknowledgement}
use Rattle.ledger.specs.Promises.{cause_of}
use Rattle.ledger.specs.Polling as polling
use Rattle.ledger.specs.Polling.{ends, sends, step4}
use Rattle.endpoint.specs.Endpoint.{live_of}
use Rattle.endpoint.specs.Places.{at, after}
use Rattle.endpoint.specs.declared.Requests.{Requests}
use Rattle.decisions_poll.specs.declared.Step.{Step}
use Rattle.decisions_poll.specs.declared.Step.TheVariants.{End, Again, First}

-- the frame of the request in a row is sent
abbrev pub sent_from : Ledger → (clock : ℕ) → link.Frame → (next_seq row : ℕ) → polling.Act
sent_from l clock f next_seq i = sends l clock f next_seq (take i l.live) (at i l.live) (after i l.live)

-- what a poll's step does to a ledger; where there is none nothing is sent and nobody ends
abbrev pub step_of : Option Step → Ledger → (clock : ℕ) → polling.Act
step_of (Some (End i cause)) l clock = ends l clock (cause_of cause) (take i l.live) (at i l.live) (after i l.live)
step_of (Some (Again i f)) l clock = sent_from l clock (frame_of f) l.next_seq i
step_of (Some (First i)) l clock = sent_from l clock (first_sent l.next_seq clock) (seq_after l.next_seq) i
step_of None l clock = step4 l clock

-- the row that it names is one of a number
abbrev pub Reaches : Option Step → (count : ℕ) → Type 0
Reaches (Some (End i cause)) count = i < count
Reaches (Some (Again i f)) count = i < count
Reaches (Some (First i)) count = i < count
Reaches None count = Unit

-- the step is what a poll does, for every ledger with these live requests
pub record Steps (s : Option Step) (live : Requests) (clock : ℕ) : Type 0 where
  pub acts : (l : Ledger) (store : List ℕ) → l.live ≡ live_of live store → polling.act l clock ≡ step_of s l clock
  pub reaches : Reaches s live.count

-- what is done with a frame in flight, in a row
abbrev pub frame_act : Ledger → (clock : ℕ) → link.Frame → (row : ℕ) → polling.Act
frame_act l clock f i =
    if (due f clock)
    (if (may_go_again f)
    (sent_from l clock (sent_again f clock) l.next_seq i)
    (ends l clock no_acknowledgement (take i l.live) (at i l.live) (after i l.live)))
    (step4 l clock)
