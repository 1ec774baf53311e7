-- Polling comes to rest: for each live request a poll at a reading has something to do at most once, as a frame that it has sent is
-- not due at that reading, and a request that it has ended is gone.
use Prim.Native.Nat.{ℕ, zero, suc, ◌+◌, ◌-◌, ◌≤◌}
use mathlib.Core.Bool.{true, false, not, ◌&&◌, cond as if}
use mathlib.Core.List.{List, [], ◌∷◌, ◌++◌}
use mathlib.Core.Option.{Option, none, some}
use mathlib.Core.Path.{◌≡◌, refl, ap, subst}
use native.Mathlib.Omega.{arith}
use lib.Dec.{eqb, leb, ltb}
use lib.ListN.{length}
use borrow.Author.Tests.{le-ltb, eqb-true}
use Rattle.message.specs.Bytes.{total, max_len}
use Rattle.message.proofs.Headers.{both}
use Rattle.link.specs.SequenceIds.{seq_after}
use Rattle.link.specs.Frames.{Frame, first_sent, due, sent_again}
use Rattle.link.proofs.Laws.{first_not_due, again_not_due}
use Rattle.ledger.specs.Lists.{All}
use Rattle.ledger.specs.Parts.{reserved_max, State, queued, in_flight, waiting, Request, Ledger, with_state}
use Rattle.ledger.specs.Answers.{Cause, no_response, no_acknowledgement, Poll, sent, ended, quiet, Answer, polled}
use Rattle.ledger.specs.Receiving as receiving
use Rattle.ledger.specs.Receiving.{provided}
use Rattle.ledger.specs.Polling as polling
use Rattle.ledger.specs.Polling.{Act, does, response_time, overdue_in, polled_as, ends, sends}
use Rattle.ledger.specs.Calls.{Call, submit, receive, poll, reading_of}
use Rattle.ledger.specs.Refusals.{malformed, first_of, refusal}
use Rattle.ledger.specs.Runs.{opened_by, answers_to, step, outcomes_of, Entry, Run, start, then, run}
use Rattle.claims.specs.ClockRule.{accepted_in}
use Rattle.claims.specs.Resting.{is_busy, is_busy_poll, busy_in_a_row, restless, polls_at, before_quiet}
use Rattle.claims.specs.Clauses.{Enough}
use Rattle.ledger.proofs.Cases.{by_test}
use Rattle.claims.proofs.PollCases.{Acted, no_response_law, goes_again, gives_up, goes_first, quiet_free, quiet_busy, acted}
use Rattle.claims.proofs.Views.{View, refuses, accepts, view}
use Rattle.claims.proofs.Fine.{Fine, fine_calm, not_malformed}
use Rattle.claims.proofs.SoundFine.{fine_of}
use Rattle.claims.proofs.Along.{Good, entry_of, good_step, start_good}

-- whether polls at a reading may have something to do for a request, as a number: it is queued, due or overdue
abbrev stirs : (t : ℕ) → State → ℕ
stirs t queued = 1
stirs t (in_flight f) = if (due f t) 1 0
stirs t (waiting since) = if (leb response_time (t - since)) 1 0

-- for how many of the live ones
unfoldable load : (t : ℕ) → List Request → ℕ
load t [] = 0
load t (q ∷ qs) = stirs t q.state + load t qs

stirs_once : (t : ℕ) (s : State) → stirs t s ≤ 1
stirs_once t queued = omega arith
stirs_once t (in_flight f) = by_test (λ b. if b 1 0 ≤ 1) (due f t) (λ e. omega arith) (λ e. omega arith)
stirs_once t (waiting since) = by_test (λ b. if b 1 0 ≤ 1) (leb response_time (t - since)) (λ e. omega arith) (λ e. omega arith)

load_few : (t : ℕ) (live : List Request) → load t live ≤ length live
unfolding load
load_few t [] = omega arith
load_few t (q ∷ live) = let once = stirs_once t q.state in let rest = load_few t live in omega arith

load_append : (t : ℕ) (xs ys : List Request) → load t (xs ++ ys) ≡ load t xs + load t ys
unfolding load
load_append t [] ys = omega arith
load_append t (x ∷ xs) ys = let rest = load_append t xs ys in omega arith

-- one that is overdue
overdue_stirs : (t : ℕ) (s : State) {u : Unit {0}} → overdue_in t s ≡ some u → stirs t s ≡ 1
overdue_stirs t queued h = refl
overdue_stirs t (in_flight f) h = let z : ◌≡◌ {A = ℕ} 0 1 = cc in absurd (omega arith)
overdue_stirs t (waiting since) {u} h =
    by_test (λ b. provided b tt ≡ some u → ◌≡◌ {A = ℕ} (if b 1 0) 1) (leb response_time (t - since))
    (λ e k. refl)
    (λ e k. let z : ◌≡◌ {A = ℕ} 0 1 = cc in absurd (omega arith))
    h

-- a poll that does something leaves one less, a quiet one no more
module _ (l : Ledger) (t : ℕ) where
  abbrev Lightens : Act → Type 0
  Lightens (does p bytes next live) = (if (is_busy p) 1 0) + load t live ≤ load t l.live

  by_ending : (cause : Cause) (b a : List Request) (it : Request) → l.live ≡ b ++ (it ∷ a) → stirs t it.state ≡ 1
      → Lightens (ends l t cause b it a)
  unfolding load
  by_ending cause b a it among one =
      let before = load_append t b (it ∷ a) in
      let after = load_append t b a in
      rw among (omega arith)

  by_sending : (f : Frame) (next : ℕ) (b a : List Request) (it : Request) → l.live ≡ b ++ (it ∷ a) → stirs t it.state ≡ 1
      → due f t ≡ false → Lightens (sends l t f next b it a)
  unfolding load
  by_sending f next b a it among one calm =
      let before = load_append t b (it ∷ a) in
      let after = load_append t b (with_state (in_flight f) it ∷ a) in
      let still : stirs t (in_flight f) ≡ 0 = rw calm in
      rw among (omega arith)

  by_case : (a : Act) → Acted l t a → Lightens a
  by_case a (no_response_law b x q among late) = by_ending no_response b x q among (overdue_stirs t q.state late)
  by_case a (goes_again b x q f among flying late may) =
      by_sending (sent_again f t) l.next_seq b x q among (rw (flying, late)) (again_not_due f t)
  by_case a (gives_up b x q f among flying late) = by_ending no_acknowledgement b x q among (rw (flying, late))
  by_case a (goes_first b x q among new free idle) =
      by_sending (first_sent l.next_seq t) (seq_after l.next_seq) b x q among (rw new) (first_not_due l.next_seq t)
  by_case a (quiet_free current free idle) = omega arith
  by_case a (quiet_busy current b x q f among flying calm) = omega arith

  lightens : Lightens (polling.act l t)
  lightens = by_case (polling.act l t) (acted l t)

-- polls at one reading, each with room for a frame, from a ledger that is fine: none is refused, and each leaves it fine
module _ (limit t : ℕ) where
  passes : (l : Ledger) (output : List ℕ) → malformed limit l ≡ false → l.clock ≤ t → total max_len ≤ length output
      → refusal limit l (poll output t) ≡ none
  unfolding first_of
  passes l output sound on room = rw (sound, le-ltb t l.clock on, le-ltb (length output) (total max_len) room)

  pub polls : (l : Ledger) (output : List ℕ) → Fine limit l → l.clock ≤ t → total max_len ≤ length output
      → step limit l (poll output t) ≡ polled_as l (polling.act l t) output t
  unfolding step
  polls l output fine on room = ap (answers_to l (poll output t)) (passes l output (not_malformed limit l fine) on room)

  record Leaves (l n : Ledger) (a : Answer) : Type 0 where
    fine : Fine limit n
    clock : n.clock ≡ t
    answer : Poll
    answered : a ≡ polled answer
    lighter : (if (is_busy answer) 1 0) + load t n.live ≤ load t l.live

  leaves : (l : Ledger) (output : List ℕ) → Fine limit l → l.clock ≤ t → total max_len ≤ length output
      → Leaves l (step limit l (poll output t)).next (step limit l (poll output t)).answer
  leaves l output fine on room =
      rw same (go (polling.act l t) (lightens l t) (rw same at (view limit l (poll output t))))
    where
      same : step limit l (poll output t) ≡ polled_as l (polling.act l t) output t
      same = polls l output fine on room

      go : (a : Act) → Lightens l t a → View limit l (poll output t) (polled_as l a output t)
          → Leaves l (polled_as l a output t).next (polled_as l a output t).answer
      go (does p bytes next live) lighter v = record {
        fine = fine_calm limit l (poll output t) refl fine v;
        clock = refl;
        answer = p;
        answered = refl;
        lighter = lighter;
      }

  -- it is quiet, or one of those that did something
  counts : (p : Poll) (rest before after : ℕ) → (if (is_busy p) 1 0) + after ≤ before → rest ≤ after
      → if (not (is_busy p)) zero (suc rest) ≤ before
  counts (sent n) rest before after lighter h = omega arith
  counts (ended x) rest before after lighter h = omega arith
  counts (quiet time) rest before after lighter h = omega arith

  rests : (l : Ledger) (outputs : List (List ℕ)) → Fine limit l → l.clock ≤ t → All (λ o. total max_len ≤ length o) outputs
      → before_quiet (outcomes_of limit l (polls_at t outputs)) ≤ load t l.live
  unfolding outcomes_of before_quiet
  rests l [] fine on room = omega arith
  rests l (o ∷ os) fine on room =
      let next = (step limit l (poll o t)).next in
      let after = leaves l o fine on room.0 in
      let clock = after.clock in
      rw after.answered (counts after.answer (before_quiet (outcomes_of limit next (polls_at t os))) (load t l.live)
      (load t next.live) after.lighter (rests next os after.fine (omega arith) room.1))

-- at most as often as there are live requests
pub rests_by_live : (limit : ℕ) (l : Ledger) (t : ℕ) (outputs : List (List ℕ)) → malformed limit l ≡ false → l.clock ≤ t
    → All (λ o. total max_len ≤ length o) outputs
    → before_quiet (outcomes_of limit l (polls_at t outputs)) ≤ length l.live
rests_by_live limit l t outputs sound on room =
    let few = load_few t l.live in
    let count = rests limit t l outputs (fine_of limit l sound) on room in
    omega arith

pub comes_to_rest : (limit : ℕ) (l : Ledger) (t : ℕ) (outputs : List (List ℕ)) → malformed limit l ≡ false → l.clock ≤ t
    → All (λ o. total max_len ≤ length o) outputs
    → before_quiet (outcomes_of limit l (polls_at t outputs)) ≤ limit
comes_to_rest limit l t outputs sound on room =
    let few = (fine_of limit l sound).fit.few in
    let count = rests_by_live limit l t outputs sound on room in
    omega arith

-- any call that is such a poll
busy_lightens : (l : Ledger) (c : Call) (refused : Option ℕ) → is_busy_poll (answers_to l c refused).answer ≡ true
    → suc (load (reading_of c) (answers_to l c refused).next.live) ≤ load (reading_of c) l.live
unfolding receiving.receive
busy_lightens l c (some n) busy = let z : ◌≡◌ {A = ℕ} 0 1 = cc in absurd (omega arith)
busy_lightens l (submit fields bytes wanted t) none busy = let z : ◌≡◌ {A = ℕ} 0 1 = cc in absurd (omega arith)
busy_lightens l (receive bytes reply buffer t) none busy = let z : ◌≡◌ {A = ℕ} 0 1 = cc in absurd (omega arith)
busy_lightens l (poll output t) none busy = go (polling.act l t) (lightens l t) busy
  where
    go : (a : Act) → Lightens l t a → is_busy_poll (polled_as l a output t).answer ≡ true
        → suc (load t (polled_as l a output t).next.live) ≤ load t l.live
    go (does p bytes next live) lighter k = let one : ◌≡◌ {A = ℕ} (if (is_busy p) 1 0) 1 = rw k in omega arith

busy_step : (limit : ℕ) (l : Ledger) (c : Call) → is_busy_poll (step limit l c).answer ≡ true
    → suc (load (reading_of c) (step limit l c).next.live) ≤ load (reading_of c) l.live
unfolding step
busy_step limit l c busy = busy_lightens l c (refusal limit l c) busy

-- along a list of calls: what was done at a reading, and what is left to do there, are no more than may be live
abbrev Restful : (limit t : ℕ) → Run → Type 0
Restful limit t s = restless t s.past + load t s.ledger.live ≤ limit

module _ (limit t : ℕ) where
  restful_after : (l : Ledger) (c : Call) (h : List Entry) → Fine limit (step limit l c).next → View limit l c (step limit l c)
      → restless t h + load t l.live ≤ limit
      → restless t (entry_of c (step limit l c) ∷ h) + load t (step limit l c).next.live ≤ limit
  unfolding accepted_in busy_in_a_row
  restful_after l c h fine (refuses n number buffers same) before = rw (number, same) before
  restful_after l c h fine (accepts go_on accepted keeps change) before =
      let some_left = load_few t (step limit l c).next.live in
      let few = fine.fit.few in
      rw accepted
      (by_test (λ b. (if b (suc (restless t h)) 0) + load t (step limit l c).next.live ≤ limit)
      (is_busy_poll (step limit l c).answer && eqb (reading_of c) t)
      (λ busy.
      let parts = both (is_busy_poll (step limit l c).answer) (eqb (reading_of c) t) busy in
      let now = eqb-true (reading_of c) t parts.1 in
      let less = subst (λ r. suc (load r (step limit l c).next.live) ≤ load r l.live) now (busy_step limit l c parts.0) in
      omega arith)
      (λ other. omega arith))

  restful_run : Enough limit → (s : Run) (cs : List Call) → Good limit s → Restful limit t s → Restful limit t (run limit s cs)
  unfolding run
  restful_run enough s [] good before = before
  restful_run enough s (c ∷ cs) good before =
      let next = good_step limit enough s c good in
      restful_run enough (then limit s c) cs next
      (restful_after s.ledger c s.past next.fine (view limit s.ledger c) before)

-- nothing is live at the start
start_restful : (limit given t : ℕ) → Restful limit t (start given)
unfolding first_of accepted_in busy_in_a_row load
start_restful limit given t =
    by_test (λ b. restless t [] + load t (opened_by given (if b (some 3) none)).next.live ≤ limit) (ltb reserved_max given)
    (λ e. omega arith)
    (λ e. omega arith)

pub always_rests : (limit : ℕ) → Enough limit → (given : ℕ) (cs : List Call) (t : ℕ)
    → restless t (run limit (start given) cs).past ≤ limit
always_rests limit enough given cs t =
    let all = restful_run limit t enough (start given) cs (start_good limit given) (start_restful limit given t) in omega arith
