-- The ledger's theorems in document 01's order, each proved by citing where the work is done. They hold for every list of calls,
-- refused ones and any clocks included, and for every number of live requests that leaves IDs enough. `Faults.antt` and
-- `UselessBuilds.antt` say for each fault and each useless build of document 01 which statement shuts it out.
use Prim.Native.Nat.{ℕ, ◌+◌, ◌≤◌, ◌<◌}
use mathlib.Core.Bool.{Bool, true, false}
use mathlib.Core.List.{List, ◌∷◌, ◌++◌}
use mathlib.Core.Logic.{◌⊎◌}
use mathlib.Core.Option.{Option, none, some}
use mathlib.Core.Path.{◌≡◌, refl}
use native.Mathlib.Omega.{arith}
use lib.ListN.{length}
use Rattle.message.specs.Bytes.{ack, nak, data_seq, total, max_len}
use Rattle.message.specs.Items.{damaged_header, forbidden, damaged_payload, decided, scan}
use Rattle.message.proofs.Laws as messages
use Rattle.line.specs.Receiving.{more}
use Rattle.command.specs.Payload.{Fields}
use Rattle.link.specs.SequenceIds.{seq_after}
use Rattle.link.specs.Frames.{Frame, first_sent}
use Rattle.ledger.specs.Lists.{All}
use Rattle.ledger.specs.Parts.{live_max, queued, in_flight, waiting, Request, Ledger, with_state}
use Rattle.ledger.specs.Answers.{no_response, stray, Ending, Receipt, Poll, quiet, Answer, refused, submitted, received, polled}
use Rattle.ledger.specs.Numbers.{numbers_of, in_order, refusal_alone}
use Rattle.ledger.specs.NumberRows.{AllTell, tellings}
use Rattle.ledger.specs.Submitting.{last_id, is_live, issued}
use Rattle.ledger.specs.Receiving.{flies, only, on_data, on_message, ack_message}
use Rattle.ledger.specs.Polling as polling
use Rattle.ledger.specs.Polling.{response_time, overdue_in, queued_in}
use Rattle.ledger.specs.Calls.{Call, submit, receive, poll, reading_of, lent_by}
use Rattle.ledger.specs.Refusals.{flights, malformed, refusal}
use Rattle.ledger.specs.Runs.{step, outcomes_of, Entry, Run, start, reserved_for, run}
use Rattle.ledger.specs.Changes.{FirstNotLive, SubmitChanges, ReceiveChanges, PollChanges}
use Rattle.ledger.specs.Examples.{AreTrue, table}
use Rattle.ledger.specs.FaultRuns.{fault_runs}
use Rattle.ledger.specs.ItemRuns.{item_runs}
use Rattle.ledger.specs.RefusalRuns.{refusal_runs}
use Rattle.ledger.specs.KeptRuns.{kept_runs}
use Rattle.ledger.specs.RequestRuns.{request_runs}
use Rattle.ledger.proofs.Keeping as keeping
use Rattle.ledger.proofs.Numbering as numbers
use Rattle.ledger.proofs.Examples as examples
use Rattle.claims.specs.Trace.{Asked, is_accepted, ending_in, frame_in, named_by, endings, frames, live_after, requests}
use Rattle.claims.specs.ClockRule.{ClockRule}
use Rattle.claims.specs.Resting.{is_busy_poll, is_quiet, restless, polls_at, before_quiet, PolledAt, polls_to_rest}
use Rattle.claims.specs.Hearing.{bytes_taken, last_receive, HeardAs, HeardAll, HeardAlike}
use Rattle.claims.specs.Clauses.{◌∈◌, Bounded, OutcomeClaims, LedgerClaims, Enough, longest}
use Rattle.claims.specs.Throughout.{Throughout}
use Rattle.claims.specs.PlainTerms.{counts, Matched, Named, NothingToDo, QuietTime, Counted, AnsweredQuiet, AnsweredBusy}
use Rattle.claims.proofs.Fine as fine
use Rattle.claims.proofs.Fine.{not_malformed}
use Rattle.claims.proofs.Views.{view}
use Rattle.claims.proofs.Along.{start_good, good_run}
use Rattle.claims.proofs.Hearing as hearing
use Rattle.claims.proofs.QuietTime as quiet-times
use Rattle.claims.proofs.Bound.{always_bounded}
use Rattle.claims.proofs.Resting as resting
use Rattle.claims.proofs.RestingWitness.{no_sooner}
use Rattle.claims.proofs.WhilePolled as while-polled
use Rattle.claims.proofs.Shown.{same_ids, same_length, all_unreserved, all_distinct, reserved_stays}
use Rattle.claims.proofs.Issued as issued
use Rattle.claims.proofs.Throughout as throughout
use Rattle.claims.proofs.Refused as refused
use Rattle.claims.proofs.Faults as faults
use Rattle.claims.proofs.UselessBuilds as useless
use Rattle.claims.proofs.InWords as words

-- "How bytes become items", "After 2, 3 and 5 only the two SYN bytes are removed": with a damaged header
pub damaged_header_removes_syn : (xs : List ℕ) {d r : ℕ} → scan xs ≡ decided damaged_header d r → r ≡ 2
damaged_header_removes_syn xs h = messages.damaged_header_removes_syn xs h

-- with a forbidden one
pub forbidden_removes_syn : (xs : List ℕ) {d r : ℕ} → scan xs ≡ decided forbidden d r → r ≡ 2
forbidden_removes_syn xs h = messages.forbidden_removes_syn xs h

-- and with a damaged payload, so that the next message is not swallowed
pub damaged_removes_syn : (xs : List ℕ) {d r : ℕ} → scan xs ≡ decided damaged_payload d r → r ≡ 2
damaged_removes_syn xs h = faults.damaged_removes_syn xs h

-- demand 2's statement about cuts: the items of a list's accepted receives, in order, with what is held in the end, are those of the
-- bytes taken, joined, whatever submits, polls, refused calls and cuts stand between
pub heard_as_joined : (limit given : ℕ) (cs : List Call)
    → HeardAs (run limit (start given) cs).past (run limit (start given) cs).ledger.held
heard_as_joined limit given cs = hearing.as_joined limit given cs

-- where the last receive answered *more*, all of them have been answered
pub heard_all : (limit given : ℕ) (cs : List Call) → last_receive (run limit (start given) cs).past ≡ more
    → HeardAll (run limit (start given) cs).past (run limit (start given) cs).ledger.held
heard_all limit given cs last = hearing.all_answered limit given cs last

-- so two lists that take the same bytes, and whose last receive answered *more*, have the same items and hold the same bytes
pub same_bytes_same_items : (limit limit' given given' : ℕ) (cs cs' : List Call)
    → bytes_taken (run limit (start given) cs).past ≡ bytes_taken (run limit' (start given') cs').past
    → last_receive (run limit (start given) cs).past ≡ more → last_receive (run limit' (start given') cs').past ≡ more
    → HeardAlike (run limit (start given) cs).past (run limit' (start given') cs').past (run limit (start given) cs).ledger.held
    (run limit' (start given') cs').ledger.held
same_bytes_same_items limit limit' given given' cs cs' same last last' =
    hearing.alike (run limit (start given) cs).past (run limit' (start given') cs').past (run limit (start given) cs).ledger.held
    (run limit' (start given') cs').ledger.held (heard_all limit given cs last) (heard_all limit' given' cs' last') same

-- **Submit**, "The ID is the first one not live": the one that is issued is not live, after any calls, where a submit finds room
pub issued_not_live : (limit : ℕ) → Enough limit → (given : ℕ) (cs : List Call)
    → (length (run limit (start given) cs).ledger.live ≡ limit → ⊥)
    → is_live (issued (run limit (start given) cs).ledger) (run limit (start given) cs).ledger.live ≡ false
issued_not_live limit enough given cs room =
    fine.issued_free limit enough (run limit (start given) cs).ledger
    (good_run limit enough (start given) cs (start_good limit given)).fine room

-- and it is the first such from the next request ID on: those that are passed over are live
pub issued_is_first : (limit : ℕ) → Enough limit → (given : ℕ) (cs : List Call)
    → (fields : Fields) (bytes : List ℕ) (wanted : Bool) (t id : ℕ)
    → (step limit (run limit (start given) cs).ledger (submit fields bytes wanted t)).answer ≡ submitted id
    → FirstNotLive (run limit (start given) cs).ledger id
issued_is_first limit enough given cs fields bytes wanted t id h =
    issued.first_not_live limit enough (run limit (start given) cs).ledger
    (good_run limit enough (start given) cs (start_good limit given)).fine fields bytes wanted t id h

-- what an accepted submit changes, and that all else stays: held bytes, last SEQ, next SEQ, R and every other request
pub submit_changes : (limit : ℕ) (l : Ledger) (fields : Fields) (bytes : List ℕ) (wanted : Bool) (t id : ℕ)
    → (step limit l (submit fields bytes wanted t)).answer ≡ submitted id
    → SubmitChanges l fields bytes wanted t id (step limit l (submit fields bytes wanted t)).next
submit_changes limit l fields bytes wanted t id h = keeping.submit_changes limit l fields bytes wanted t id h

-- **Receive**: what an accepted one changes, and that all else stays. The last SEQ changes by a DATA_SEQ frame alone, and by every such;
-- a request leaves only where the answer names it, and only one that leaves is named
pub receive_changes : (limit : ℕ) (l : Ledger) (bytes reply buffer : List ℕ) (t : ℕ) (r : Receipt)
    → (step limit l (receive bytes reply buffer t)).answer ≡ received r
    → ReceiveChanges l bytes t r (step limit l (receive bytes reply buffer t)).next
receive_changes limit l bytes reply buffer t r h = keeping.receive_changes limit l bytes reply buffer t r h

-- an ACK with the SEQ in flight: a request that wants a response waits from the reading of its ACK
pub waits_from_its_ack : (l : Ledger) (t : ℕ) (b a : List Request) (q : Request) (f : Frame) (payload : List ℕ)
    → l.live ≡ b ++ (q ∷ a) → flights b ≡ 0 → q.state ≡ in_flight f → q.wanted ≡ true
    → (on_message l t ack f.seq payload).live ≡ b ++ (with_state (waiting t) q ∷ a)
waits_from_its_ack l t b a q f payload among alone flying wanted = keeping.ack_waits l t b a q f payload among alone flying wanted

-- an ACK with another SEQ than that in flight is *stray*
pub other_ack_is_stray : (l : Ledger) (t seq : ℕ) (payload : List ℕ)
    → All (λ q. (f : Frame) → q.state ≡ in_flight f → f.seq ≡ seq → ⊥) l.live → on_message l t ack seq payload ≡ only l t stray
other_ack_is_stray l t seq payload others = faults.other_ack_is_stray l t seq payload others

-- a NAK leaves the counts of transmissions
pub nak_keeps_counts : (l : Ledger) (t seq : ℕ) (payload : List ℕ) → counts (on_message l t nak seq payload).live ≡ counts l.live
nak_keeps_counts l t seq payload = faults.nak_keeps_counts l t seq payload

-- every DATA_SEQ is acknowledged, a repeat too
pub sequenced_is_acknowledged : (l : Ledger) (t seq : ℕ) (payload : List ℕ)
    → (on_message l t data_seq seq payload).reply ≡ ack_message seq
sequenced_is_acknowledged l t seq payload = faults.sequenced_is_acknowledged l t seq payload

-- what a response ends agrees with it in every field
pub response_matches_every_field : (l : Ledger) (t : ℕ) (payload : List ℕ) (x : Ending) → (on_data l t payload).ending ≡ some x
    → Matched l payload x
response_matches_every_field l t payload x ends = faults.response_matches_every_field l t payload x ends

-- **Poll**: what an accepted one changes, and that all else stays. The next SEQ changes by a first transmission alone, and by every such;
-- a request leaves only where the answer names it, and only one that leaves is named
pub poll_changes : (limit : ℕ) (l : Ledger) (output : List ℕ) (t : ℕ) (p : Poll)
    → (step limit l (poll output t)).answer ≡ polled p → PollChanges l t p (step limit l (poll output t)).next
poll_changes limit l output t p h = keeping.poll_changes limit l output t p h

-- the oldest waiting request whose time is up ends first, whatever is due
pub overdue_ends_first : (l : Ledger) (t : ℕ) (b a : List Request) (q : Request) (since : ℕ) → l.live ≡ b ++ (q ∷ a)
    → q.state ≡ waiting since → since + response_time ≤ t → All (λ x. overdue_in t x.state ≡ none) b
    → polling.act l t ≡ polling.ends l t no_response b q a
overdue_ends_first l t b a q since among waits late none_before =
    faults.overdue_ends_first l t b a q since among waits late none_before

-- then the frame in flight; and where none is, the oldest queued request is sent, with the next SEQ
pub oldest_queued_is_sent : (l : Ledger) (t : ℕ) (b a : List Request) (q : Request) → l.live ≡ b ++ (q ∷ a) → q.state ≡ queued
    → All (λ x. overdue_in t x.state ≡ none) l.live → All (λ x. flies x ≡ none) l.live
    → All (λ x. queued_in x.state ≡ none) b
    → polling.act l t ≡ polling.sends l t (first_sent l.next_seq t) (seq_after l.next_seq) b q a
oldest_queued_is_sent l t b a q among waits current free none_before =
    faults.oldest_queued_is_sent l t b a q among waits current free none_before

-- *quiet* is answered only where there is nothing to do
pub quiet_when_nothing_to_do : (limit : ℕ) (l : Ledger) (c : Call) (time : Option ℕ) → (step limit l c).answer ≡ polled (quiet time)
    → NothingToDo (reading_of c) l.live
quiet_when_nothing_to_do limit l c time h = useless.quiet_when_nothing_to_do limit l c time h

-- and its time says *no deadline* only where nobody is live, else from 1 to 3,000 ms
pub quiet_time : (limit : ℕ) → Enough limit → (given : ℕ) (cs : List Call) (c : Call) (time : Option ℕ)
    → (step limit (run limit (start given) cs).ledger c).answer ≡ polled (quiet time)
    → QuietTime (run limit (start given) cs).ledger.live time
quiet_time limit enough given cs c time h =
    let l = (run limit (start given) cs).ledger in
    quiet-times.quiet_time limit l c (step limit l c) time (good_run limit enough (start given) cs (start_good limit given)).fine
    (view limit l c) h

pub quiet_1_to_3000 : (live : List Request) (time : Option ℕ) → QuietTime live time → (ms : ℕ) → time ≡ some ms → (1 ≤ ms) × (ms ≤ 3000)
quiet_1_to_3000 live time said ms h = words.quiet_1_to_3000 live time said ms h

-- polls at one reading come to rest: from every ledger that is not malformed, at most as many come before a quiet one as are live
pub rests_by_live : (limit : ℕ) (l : Ledger) (t : ℕ) (outputs : List (List ℕ)) → malformed limit l ≡ false → l.clock ≤ t
    → All (λ output. total max_len ≤ length output) outputs
    → before_quiet (outcomes_of limit l (polls_at t outputs)) ≤ length l.live
rests_by_live limit l t outputs sound on room = resting.rests_by_live limit l t outputs sound on room

-- and so at most as many as may be live
pub comes_to_rest : (limit : ℕ) (l : Ledger) (t : ℕ) (outputs : List (List ℕ)) → malformed limit l ≡ false → l.clock ≤ t
    → All (λ output. total max_len ≤ length output) outputs
    → before_quiet (outcomes_of limit l (polls_at t outputs)) ≤ limit
comes_to_rest limit l t outputs sound on room = resting.comes_to_rest limit l t outputs sound on room

-- no smaller number does, for every limit for which there are IDs
pub rests_no_sooner : (limit : ℕ) → limit ≤ last_id → (n : ℕ)
    → ((l : Ledger) (t : ℕ) (outputs : List (List ℕ)) → malformed limit l ≡ false → l.clock ≤ t
    → All (λ output. total max_len ≤ length output) outputs → before_quiet (outcomes_of limit l (polls_at t outputs)) ≤ n)
    → limit ≤ n
rests_no_sooner limit fits n bounds = no_sooner limit fits n bounds

-- *quiet* and something else than that are answers of polls alone
pub quiet_is_polls : (a : Answer) → is_quiet a ≡ true → AnsweredQuiet a
quiet_is_polls a h = words.quiet_is_polls a h

pub busy_is_polls : (a : Answer) → is_busy_poll a ≡ true → AnsweredBusy a
busy_is_polls a h = words.busy_is_polls a h

-- the count of a frame in flight is how many frames polls have put in their output
pub counts_frames : (limit : ℕ) → Enough limit → (given : ℕ) (cs : List Call) → (b a : List Request) (q : Request) (f : Frame)
    → (run limit (start given) cs).ledger.live ≡ b ++ (q ∷ a) → q.state ≡ in_flight f → Counted (run limit (start given) cs) q f
counts_frames limit enough given cs b a q f among flying = useless.counts_frames limit enough given cs b a q f among flying

-- "What demand 3 compares", of calls and outcomes alone
pub outcome_claims : (limit : ℕ) → Enough limit → (given : ℕ) (cs : List Call)
    → OutcomeClaims limit (reserved_for given) (run limit (start given) cs).past
outcome_claims limit enough given cs =
    let s = run limit (start given) cs in
    let good = good_run limit enough (start given) cs (start_good limit given) in
    let h = s.past in
    let live = live_after h in
    let fit = good.fine.fit in
    let owners = good.told.owners in
    let few = fit.few in
    record {
      belong = good.told.belongs;
      once = good.told.once;
      fates = good.told.fates;
      alike = good.told.few;
      few = omega (arith, same_length h live s.ledger.live owners);
      distinct = all_distinct h live s.ledger.live fit.distinct owners;
      unreserved = rw (reserved_stays limit (start given) cs) at
          (all_unreserved s.ledger.reserved s.ledger.clock h live s.ledger.live fit.each owners);
      rests = λ reading. omega (arith, resting.always_rests limit enough given cs reading);
    }

-- what that comes to for one frame, one request or two of them: "Accepted means not refused."
pub accepted_not_refused : (a : Answer) → is_accepted a ≡ true → (n : ℕ) → a ≡ refused n → ⊥
accepted_not_refused a accepted n h = words.accepted_not_refused a accepted n h

pub not_refused_accepted : (a : Answer) → ((n : ℕ) → a ≡ refused n → ⊥) → is_accepted a ≡ true
not_refused_accepted a h = words.not_refused_accepted a h

module _ (limit reserved : ℕ) (past : List Entry) (claims : OutcomeClaims limit reserved past) where
  -- "An ending or a polled frame belongs to the last request before it whose ID it names .., and there always is one."
  module _ (newer before : List Entry) (e : Entry) (at : past ≡ newer ++ (e ∷ before)) where
    pub ending_named : (x : Ending) → ending_in e.answer ≡ some x → Named x.id before
    ending_named x told = words.ending_named limit reserved past claims newer before e at x told

    pub frame_named : (bytes : List ℕ) → frame_in e ≡ some bytes → Named (named_by bytes) before
    frame_named bytes out = words.frame_named limit reserved past claims newer before e at bytes out

  -- "A request is live until an ending that belongs to it."
  pub one_request : (a : Asked) → a ∈ requests past
      → ((a ∈ live_after past) × (endings a.place past ≡ 0)) ⊎ (endings a.place past ≡ 1)
  one_request a asked = words.one_request limit reserved past claims a asked

  -- "Its frame goes out as often as polls put one that belongs to it in their output; all of these are equal"
  pub three_frames : (place : ℕ) → length (frames place past) ≤ 3
  three_frames place = words.three_frames limit reserved past claims place

  pub two_frames : (place : ℕ) (f g : List ℕ) → f ∈ frames place past → g ∈ frames place past → f ≡ g
  two_frames place f g one other = words.two_frames limit reserved past claims place f g one other

  -- "Unreserved means above R."
  pub above_r : (a : Asked) → a ∈ live_after past → (reserved < a.id) × (a.id ≤ 65535)
  above_r a live = words.above_r limit reserved past claims a live

  pub two_live : (older between newer : List Asked) (a b : Asked) → live_after past ≡ older ++ (a ∷ (between ++ (b ∷ newer)))
      → a.id ≡ b.id → ⊥
  two_live older between newer a b among same = words.two_live limit reserved past claims older between newer a b among same

-- under "the rule for the clock" every request ends in time: 3,000 ms for each that may be live, and 3,000
pub ends_in_time : (limit : ℕ) → Enough limit → (given : ℕ) (cs : List Call)
    → Bounded (longest limit) (run limit (start given) cs).past
ends_in_time limit enough given cs = always_bounded limit enough given cs

-- who keeps polling meets a quiet answer, and so the bound: where the newest accepted calls are so many polls at one reading, every
-- request that was accepted so long before has ended. This is from calls and outcomes alone, for every bound that they keep
pub polled_ends : (limit bound : ℕ) (past : List Entry) → ClockRule past → Bounded bound past
    → ((reading : ℕ) → restless reading past ≤ limit) → ((place : ℕ) → endings place past ≤ 1)
    → (t : ℕ) → PolledAt t (polls_to_rest limit) past
    → All (λ a. a.time + bound ≤ t → endings a.place past ≡ 1) (requests past)
polled_ends limit bound past rule bounded rests once t polls =
    while-polled.polled_ends limit bound past rule bounded rests once t polls

-- and so of every list of calls that keeps the clock rule, with the bound above
pub ends_while_polled : (limit : ℕ) → Enough limit → (given : ℕ) (cs : List Call)
    → let past = (run limit (start given) cs).past in ClockRule past → (t : ℕ) → PolledAt t (polls_to_rest limit) past
    → All (λ a. a.time + longest limit ≤ t → endings a.place past ≡ 1) (requests past)
ends_while_polled limit enough given cs rule t polls =
    let past = (run limit (start given) cs).past in
    let claims = outcome_claims limit enough given cs in
    polled_ends limit (longest limit) past rule (ends_in_time limit enough given cs) claims.rests claims.once t polls

-- and of the ledger itself
pub ledger_claims : (limit : ℕ) → Enough limit → (given : ℕ) (cs : List Call)
    → LedgerClaims limit (reserved_for given) (run limit (start given) cs)
ledger_claims limit enough given cs =
    let s = run limit (start given) cs in
    let good = good_run limit enough (start given) cs (start_good limit given) in
    let same = reserved_stays limit (start given) cs in
    let above = good.fine.next.above in
    let within = good.fine.next.within in
    let held = good.fine.held in
    record {
      same = same;
      shown = same_ids s.past (live_after s.past) s.ledger.live good.told.owners;
      one = good.fine.fit.one;
      held = omega arith;
      next = (omega arith, omega arith);
      sound = not_malformed limit s.ledger good.fine;
    }

-- the next request ID is above R
pub next_above_r : (limit reserved : ℕ) (s : Run) → LedgerClaims limit reserved s
    → (reserved < s.ledger.next_id) × (s.ledger.next_id ≤ 65535)
next_above_r limit reserved s claims = words.next_above_r limit reserved s claims

-- what holds of the end of every list from open on holds after every call of a list; and so, being said of every call, at each
pub after_every_call : (limit given : ℕ) (holds : Run → Type 0) → ((cs : List Call) → holds (run limit (start given) cs))
    → (cs : List Call) → Throughout limit holds (start given) cs
after_every_call limit given holds ends cs = throughout.after_every_call limit holds (start given) ends cs

pub at_each_call : (limit : ℕ) (holds : Run → Type 0) (s : Run) (cs ds : List Call) → Throughout limit holds s (cs ++ ds)
    → holds (run limit s cs)
at_each_call limit holds s cs ds h = throughout.at_each_call limit holds s cs ds h

-- so after every call of a list each request has ended once at most, the live IDs are distinct and unreserved, and few are live
pub claims_after_every_call : (limit : ℕ) → Enough limit → (given : ℕ) (cs : List Call)
    → Throughout limit (λ s. OutcomeClaims limit (reserved_for given) s.past) (start given) cs
claims_after_every_call limit enough given cs =
    after_every_call limit given (λ s. OutcomeClaims limit (reserved_for given) s.past) (outcome_claims limit enough given) cs

-- all of this for the number of document 01, three
pub three_are_few : Enough live_max
three_are_few = omega arith

pub outcome_claims_3 : (given : ℕ) (cs : List Call) → OutcomeClaims live_max (reserved_for given) (run live_max (start given) cs).past
outcome_claims_3 given cs = outcome_claims live_max three_are_few given cs

-- for three, 12,000 ms
pub ends_in_time_3 : (given : ℕ) (cs : List Call) → Bounded 12000 (run live_max (start given) cs).past
ends_in_time_3 given cs = ends_in_time live_max three_are_few given cs

-- for three, four polls at one reading
pub ends_while_polled_3 : (given : ℕ) (cs : List Call)
    → let past = (run live_max (start given) cs).past in ClockRule past → (t : ℕ) → PolledAt t 4 past
    → All (λ a. a.time + 12000 ≤ t → endings a.place past ≡ 1) (requests past)
ends_while_polled_3 given cs rule t polls = ends_while_polled live_max three_are_few given cs rule t polls

pub ledger_claims_3 : (given : ℕ) (cs : List Call) → LedgerClaims live_max (reserved_for given) (run live_max (start given) cs)
ledger_claims_3 given cs = ledger_claims live_max three_are_few given cs

-- "Refusal numbers": a call is refused where the table refuses it, with that number, and then nothing changes, buffers included
pub refused_by_table : (limit : ℕ) (l : Ledger) (c : Call) (n : ℕ) → (step limit l c).answer ≡ refused n → refusal limit l c ≡ some n
refused_by_table limit l c n h = refused.by_table limit l c n h

pub refused_changes_nothing : (limit : ℕ) (l : Ledger) (c : Call) (n : ℕ) → refusal limit l c ≡ some n
    → step limit l c ≡ record { answer = refused n; buffers = lent_by c; next = l }
refused_changes_nothing limit l c n h = refused.changes_nothing limit l c n h

-- "Each hands back its number, taken count and any other number of the answer 0"
pub refused_numbers : (limit : ℕ) (l : Ledger) (c : Call) (n : ℕ) → refusal limit l c ≡ some n
    → in_order (numbers_of (step limit l c).answer) ≡ refusal_alone n
refused_numbers limit l c n h = numbers.refused_numbers limit l c n h

-- "An accepted call sets the clock.": to its reading
pub accepted_sets_clock : (limit : ℕ) (l : Ledger) (c : Call) → is_accepted (step limit l c).answer ≡ true
    → (step limit l c).next.clock ≡ reading_of c
accepted_sets_clock limit l c h = refused.sets_clock limit l c h

-- the numbers of one answer of each kind, written out
pub numbers_told : AllTell tellings
numbers_told = numbers.numbers_told

-- "Bench examples", all fourteen as one table; and tables of runs for faults, items, refusals, what calls leave and requests
pub bench_examples : AreTrue table
bench_examples = examples.examples

pub all_fourteen : length table ≡ 14
all_fourteen = refl

pub fault_runs_law : AreTrue fault_runs
fault_runs_law = examples.fault_runs_law

pub item_runs_law : AreTrue item_runs
item_runs_law = examples.item_runs_law

pub refusal_runs_law : AreTrue refusal_runs
refusal_runs_law = examples.refusal_runs_law

pub kept_runs_law : AreTrue kept_runs
kept_runs_law = examples.kept_runs_law

pub request_runs_law : AreTrue request_runs
request_runs_law = examples.request_runs_law
