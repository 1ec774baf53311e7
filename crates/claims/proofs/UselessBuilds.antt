-- Document 01, "What each statement has to rule out": for each of the five useless builds, the statement that shuts it out. A build
-- answers as the ledger does, call by call (demand 3), so each statement here is about the ledger's answers.
use Prim.Native.Nat.{ℕ, ◌+◌}
use mathlib.Core.List.{List, [], ◌∷◌, ◌++◌}
use mathlib.Core.Option.{Option, none, some}
use mathlib.Core.Path.{◌≡◌, refl, ◌∙◌, ap, subst}
use native.Mathlib.Omega.{arith}
use lib.ListN.{length, length-append, replicate, length-replicate}
use Rattle.message.specs.Bytes.{total, max_len}
use Rattle.message.specs.Items.{Item, scan, decided}
use Rattle.line.specs.Receiving as line
use Rattle.line.specs.Receiving.{item}
use Rattle.line.proofs.Laws.{item_of_all}
use Rattle.link.specs.Frames.{Frame}
use Rattle.ledger.specs.Parts.{live_max, in_flight, Request, Ledger, fresh}
use Rattle.ledger.specs.Answers.{quiet, submitted, polled, Done, Ending}
use Rattle.ledger.specs.Polling.{frame_bytes}
use Rattle.ledger.specs.Calls.{Call, poll, reading_of}
use Rattle.ledger.specs.Refusals.{some_of, two_equal, flights, malformed, first_of, refusal}
use Rattle.ledger.specs.Runs.{step, start, then, run}
use Rattle.claims.specs.Trace.{ending_in, frames, last_asked, live_after}
use Rattle.claims.specs.Clauses.{Enough}
use Rattle.claims.specs.PlainTerms.{NothingToDo, all_wait, one_flies, Counted}
use Rattle.ledger.specs.Examples.{zeros}
use Rattle.claims.proofs.Views.{stays, joins, leaves, turns, rests_free, rests_busy, View, refuses, accepts, view}
use Rattle.claims.proofs.Owners.{Sent, owner_of}
use Rattle.claims.proofs.Along.{Good, start_good, good_run, good_step}

-- 1. "one that refuses everything": a refused call is one that the table refuses (`Laws.refused_by_table`), and it does not refuse this
pub does_not_refuse_all : refusal live_max (fresh 38) (poll (zeros (total max_len)) 0) ≡ none
unfolding first_of malformed some_of two_equal flights
does_not_refuse_all = refl

-- 2. "one that answers *more* .. always": *more* is answered only where all bytes together decide no item
pub more_when_undecided : (held new : List ℕ) {i : Item} {d r : ℕ} → scan (held ++ new) ≡ decided i d r
    → (line.receive held new).answer ≡ item i
more_when_undecided held new decides = item_of_all held new ∙ rw decides

-- ".. or *quiet* always": quiet is answered only where none is overdue, and none is in flight or queued or the one in flight is
-- not due
pub quiet_when_nothing_to_do : (limit : ℕ) (l : Ledger) (c : Call) (time : Option ℕ) → (step limit l c).answer ≡ polled (quiet time)
    → NothingToDo (reading_of c) l.live
quiet_when_nothing_to_do limit l c time h = go (step limit l c) (view limit l c) h
  where
    go : (d : Done) → View limit l c d → d.answer ≡ polled (quiet time) → NothingToDo (reading_of c) l.live
    go d (refuses n number buffers same) h = let z : ◌≡◌ {A = ℕ} 0 1 = cc in absurd (omega arith)
    go d (accepts go_on accepted keeps (stays shows same)) h =
        let none_told = shows.rests in let z : ◌≡◌ {A = ℕ} 0 1 = cc in absurd (omega arith)
    go d (accepts go_on accepted keeps (joins q new named short room shows same)) h =
        let none_told = shows.rests in let z : ◌≡◌ {A = ℕ} 0 1 = cc in absurd (omega arith)
    go d (accepts go_on accepted keeps (leaves b a q x among named shows same)) h =
        let none_told = shows.rests in let z : ◌≡◌ {A = ℕ} 0 1 = cc in absurd (omega arith)
    go d (accepts go_on accepted keeps (turns b a q s frame among turn first shows same)) h =
        let none_told = shows.rests in let z : ◌≡◌ {A = ℕ} 0 1 = cc in absurd (omega arith)
    go d (accepts go_on accepted keeps (rests_free current free idle shows same)) h = all_wait current free idle
    go d (accepts go_on accepted keeps (rests_busy current b a q f among flying calm shows same)) h =
        one_flies current b a q f among flying calm

-- 3. "one that does nothing": an accepted submit leaves one live request more
pub submit_does_something : (limit : ℕ) (l : Ledger) (c : Call) (id : ℕ) → (step limit l c).answer ≡ submitted id
    → length (step limit l c).next.live ≡ length l.live + 1
submit_does_something limit l c id h = go (step limit l c) (view limit l c) h
  where
    go : (d : Done) → View limit l c d → d.answer ≡ submitted id → length d.next.live ≡ length l.live + 1
    go d (refuses n number buffers same) h = let z : ◌≡◌ {A = ℕ} 0 1 = cc in absurd (omega arith)
    go d (accepts go_on accepted keeps (stays shows same)) h =
        let none_told = shows.asks in let z : ◌≡◌ {A = ℕ} 0 1 = cc in absurd (omega arith)
    go d (accepts go_on accepted keeps (joins q new named short room shows same)) h = rw same (length-append l.live (q ∷ []))
    go d (accepts go_on accepted keeps (leaves b a q x among named shows same)) h =
        let none_told = shows.asks in let z : ◌≡◌ {A = ℕ} 0 1 = cc in absurd (omega arith)
    go d (accepts go_on accepted keeps (turns b a q s frame among turn first shows same)) h =
        let none_told = shows.asks in let z : ◌≡◌ {A = ℕ} 0 1 = cc in absurd (omega arith)
    go d (accepts go_on accepted keeps (rests_free current free idle shows same)) h =
        let none_told = shows.asks in let z : ◌≡◌ {A = ℕ} 0 1 = cc in absurd (omega arith)
    go d (accepts go_on accepted keeps (rests_busy current b a q f among flying calm shows same)) h =
        let none_told = shows.asks in let z : ◌≡◌ {A = ℕ} 0 1 = cc in absurd (omega arith)

-- 4. "one that reports all endings in the first call": the first call of a list reports none, since an ending belongs to a request
-- before it (`Laws.outcome_claims`, field `belong`)
pub first_call_ends_nothing : (limit : ℕ) → Enough limit → (given : ℕ) (c : Call)
    → ending_in (step limit (start given).ledger c).answer ≡ none
unfolding last_asked
first_call_ends_nothing limit enough given c = go (ending_in (step limit (start given).ledger c).answer) refl
  where
    good : Good limit (then limit (start given) c)
    good = good_step limit enough (start given) c (start_good limit given)

    go : (o : Option Ending) → ending_in (step limit (start given).ledger c).answer ≡ o
        → ending_in (step limit (start given).ledger c).answer ≡ none
    go none e = e
    go (some x) e =
        let owner = good.told.belongs.0.ending x e in
        let last = owner.last in
        let z : ◌≡◌ {A = ℕ} 0 1 = cc in absurd (omega arith)

-- 5. "one whose transmission count is invented": the count of a frame in flight is how many frames polls have put in their output
-- for its request
pub counts_frames : (limit : ℕ) → Enough limit → (given : ℕ) (cs : List Call) → (b a : List Request) (q : Request) (f : Frame)
    → (run limit (start given) cs).ledger.live ≡ b ++ (q ∷ a) → q.state ≡ in_flight f → Counted (run limit (start given) cs) q f
counts_frames limit enough given cs b a q f among flying =
    let s = run limit (start given) cs in
    let good = good_run limit enough (start given) cs (start_good limit given) in
    let its = owner_of s.past (live_after s.past) b a q (rw among at good.told.owners) in
    let sent : frames its.0.place s.past ≡ replicate f.transmissions (frame_bytes q f.seq) =
    subst (λ x. Sent q x (frames its.0.place s.past)) flying its.1.sent in
    record {
      request = its.0;
      last = its.1.last;
      counts = ap length sent ∙ length-replicate f.transmissions (frame_bytes q f.seq);
    }
