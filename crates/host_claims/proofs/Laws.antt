-- Demands 1, 2 and 3 of document 01 for the library's calls, over the promises that their `ensures` cite. Demand 3 is one claim about
-- the list, `demand_3`, and each call's own contract says that it extends every list by itself (`extends`); what follows says the parts
-- one by one. Each is shown in the file that its proof cites.
use Prim.Native.Nat.{ℕ, ◌+◌, ◌≤◌}
use mathlib.Core.Bool.{true, false}
use mathlib.Core.List.{List, ◌∷◌}
use mathlib.Core.Option.{Option, some}
use mathlib.Core.Path.{◌≡◌, sym, ap, subst, ◌∙◌}
use lib.ListN.{take}
use Rattle.line.specs.Receiving.{more}
use Rattle.ledger.specs.Lists.{All}
use Rattle.ledger.specs.Parts.{live_max, Ledger}
use Rattle.ledger.specs.Answers.{quiet, refused, polled}
use Rattle.ledger.specs.Numbers.{numbers_of, in_order, refusal_alone}
use Rattle.ledger.specs.Calls.{Call, reading_of}
use Rattle.ledger.specs.Runs.{open_for, reserved_for, step, Outcome, Entry, past_of, Run}
use Rattle.claims.specs.Trace.{is_accepted, endings, frames, live_after, requests}
use Rattle.claims.specs.ClockRule.{ClockRule}
use Rattle.claims.specs.Resting.{restless, PolledAt}
use Rattle.claims.specs.Hearing.{bytes_taken, last_receive, HeardAs, HeardAll, HeardAlike}
use Rattle.claims.specs.Clauses.{AllBelong, Fate, Few, DistinctIds, Unreserved, Bounded}
use Rattle.claims.specs.PlainTerms.{QuietTime}
use Rattle.claims.proofs.Laws.{three_are_few, quiet_time, polled_ends}
use Rattle.claims.proofs.Runs.{run_agrees}
use Rattle.endpoint.specs.Endpoint.{ledger_of}
use Rattle.endpoint.specs.Malformed.{malformed}
use Rattle.endpoint.specs.declared.Endpoint.{Endpoint}
use Rattle.refinement.specs.Refusals.{refusal_of}
use Rattle.host_answers.specs.Answers.{open_answer_of}
use Rattle.host_answers.specs.Promises.{Result, Refuses, Promise}
use Rattle.host_answers.specs.Promises as promise
use Rattle.host_answers.specs.Answers as returned
use Rattle.host_claims.specs.Chains.{Chain}
use Rattle.host_claims.specs.Claims.{Demand3, Extends, Begins, Receipts}
use Rattle.host_claims.proofs.Refining.{refines, steps}
use Rattle.host_claims.proofs.Extending as every
use Rattle.host_claims.proofs.Witness as sample
use Rattle.host_claims.proofs.Refused as refusing
use Rattle.host_claims.proofs.Received as received
use Rattle.host_claims.proofs.HeardCalls as heard

-- Demand 1, each refusal exactly when the table says, and it changes nothing: where the table refuses a call, the answer is its number,
-- and endpoint, store and buffers are what they were
pub refused_where : (e : Endpoint) (store : List ℕ) (c : Call) (o : Result) → Promise e store c o → (n : ℕ)
    → refusal_of e store c ≡ some n → Refuses n e store c o
refused_where e store c o promised n table = refusing.refused_where e store c o promised n table

-- and no call is refused where it does not
pub refused_only : (e : Endpoint) (store : List ℕ) (c : Call) (o : Result) → Promise e store c o → (n : ℕ)
    → o.answer ≡ refused n → refusal_of e store c ≡ some n
refused_only e store c o promised n h = refusing.refused_only e store c o promised n h

-- "taken count and any other number of the answer 0"
pub refused_numbers : (e : Endpoint) (store : List ℕ) (c : Call) (o : Result) → Promise e store c o → (n : ℕ)
    → refusal_of e store c ≡ some n → in_order (numbers_of o.answer) ≡ refusal_alone n
refused_numbers e store c o promised n table = rw (refused_where e store c o promised n table).answers

-- open is refused where its line of the table says so
pub open_answers : (r : returned.Opened) (given : ℕ) → promise.Opened r given → open_answer_of r.answer ≡ (open_for given).answer
open_answers r given opened = opened.answers

-- Demand 2, for one accepted receive: the item, the bytes taken and the bytes held then are those of the line
pub receives_items : (r : returned.Received) (e : Endpoint) (bytes reply buffer : List ℕ) (clock : ℕ)
    (store exit reply_exit buffer_exit : List ℕ) → promise.Received r e bytes reply buffer clock store exit reply_exit buffer_exit
    → Receipts r e bytes reply buffer clock store exit
receives_items r e bytes reply buffer clock store exit reply_exit buffer_exit promised =
    received.receives_items r e bytes reply buffer clock store exit reply_exit buffer_exit promised

-- Demand 3: for every R, every list of calls from open on, and every endpoint and store that the calls hand on
pub demand_3 : {given : ℕ} {first : returned.Opened} {calls : List Call} {outcomes : List Outcome} {e : Endpoint} {store : List ℕ}
    → Chain given first calls outcomes e store → Demand3 given first calls outcomes e store
demand_3 chain = every.demand_3 chain

-- so a call that keeps its promise extends every list that ends in what it was handed, and open begins one: what the contracts of the
-- four calls say
pub extends : (e : Endpoint) (store : List ℕ) (c : Call) (r : Result) → Promise e store c r → Extends e store c r
extends e store c r promised = every.extends e store c r promised

pub begins : (r : returned.Opened) (given : ℕ) → promise.Opened r given → Begins r given
begins r given promised = every.begins r given promised

-- and there are such lists: one of eleven calls for R = 38, with every endpoint, store, answer and buffer written out, keeps the clock
-- rule; its one request was sent once and has ended once
pub witness : sample.Witnessed sample.calls sample.outcomes
witness = sample.witnessed

-- Demand 2 for every list of calls: the items of its accepted receives, with what is held in the end, are those of the bytes taken,
-- joined, whatever submits, polls, refused calls and cuts stand between
module _ {given : ℕ} {first : returned.Opened} {calls : List Call} {outcomes : List Outcome} {e : Endpoint} {store : List ℕ}
    (chain : Chain given first calls outcomes e store) where
  pub heard_as_joined : HeardAs (past_of calls outcomes) (take e.held store)
  heard_as_joined = heard.as_joined chain

  -- and where the last receive answered *more* there are no others
  pub heard_all : last_receive (past_of calls outcomes) ≡ more → HeardAll (past_of calls outcomes) (take e.held store)
  heard_all last = heard.all_answered chain last

-- two lists that take the same bytes, and whose last receive answered *more*, have the same items and hold the same bytes
pub same_bytes_same_items : {given given' : ℕ} {first first' : returned.Opened} {calls calls' : List Call} {outcomes outcomes' : List Outcome}
    {e e' : Endpoint} {store store' : List ℕ} → Chain given first calls outcomes e store → Chain given' first' calls' outcomes' e' store'
    → bytes_taken (past_of calls outcomes) ≡ bytes_taken (past_of calls' outcomes')
    → last_receive (past_of calls outcomes) ≡ more → last_receive (past_of calls' outcomes') ≡ more
    → HeardAlike (past_of calls outcomes) (past_of calls' outcomes') (take e.held store) (take e'.held store')
same_bytes_same_items chain chain' same last last' = heard.alike chain chain' same last last'

-- the parts of demand 3, for any list
module _ {given : ℕ} {first : returned.Opened} {calls : List Call} {outcomes : List Outcome} {e : Endpoint} {store : List ℕ}
    (chain : Chain given first calls outcomes e store) where
  -- "An ending or a polled frame belongs to the last request before it whose ID it names"
  pub all_belong : AllBelong (past_of calls outcomes)
  all_belong = (demand_3 chain).claims.belong

  -- a request ends at most once; it is live and has not ended, or it has ended once
  pub at_most_once : (place : ℕ) → endings place (past_of calls outcomes) ≤ 1
  at_most_once = (demand_3 chain).claims.once

  pub live_or_ended : All (Fate (past_of calls outcomes)) (requests (past_of calls outcomes))
  live_or_ended = (demand_3 chain).claims.fates

  -- its frame goes out at most three times, the same bytes each time
  pub at_most_three_equal : (place : ℕ) → Few (frames place (past_of calls outcomes))
  at_most_three_equal = (demand_3 chain).claims.alike

  -- live IDs are distinct and unreserved
  pub distinct_ids : DistinctIds (live_after (past_of calls outcomes))
  distinct_ids = (demand_3 chain).claims.distinct

  pub unreserved_ids : All (Unreserved (reserved_for given)) (live_after (past_of calls outcomes))
  unreserved_ids = (demand_3 chain).claims.unreserved

  -- polls at one reading answer something else than *quiet* at most three times in a row
  pub at_most_three_busy : (reading : ℕ) → restless reading (past_of calls outcomes) ≤ 3
  at_most_three_busy = (demand_3 chain).claims.rests

  -- so who keeps polling is told: while the clock rule is kept, every request accepted at T has ended once four polls in a row came at a
  -- reading of T + 12,000 ms or later, whatever they answered
  pub ends_while_polled : ClockRule (past_of calls outcomes) → (reading : ℕ) → PolledAt reading 4 (past_of calls outcomes)
      → All (λ a. a.time + 12000 ≤ reading → endings a.place (past_of calls outcomes) ≡ 1) (requests (past_of calls outcomes))
  ends_while_polled kept reading polls =
      let claim = demand_3 chain in
      polled_ends live_max 12000 (past_of calls outcomes) kept claim.in_time claim.claims.rests claim.claims.once reading polls

  -- refusal 1 is never answered
  pub never_malformed : malformed e ≡ false
  never_malformed = (demand_3 chain).sound

  -- the last call of a list, with its outcome, and what had happened before
  module _ (last : Entry) (before : List Entry) (ends_with : past_of calls outcomes ≡ last ∷ before) where
    -- no caller is forgotten: while the clock rule is kept, every request accepted at T has ended once a poll at T + 12,000 ms or
    -- later answers quiet
    pub nobody_forgotten : ClockRule (last ∷ before) → (time : Option ℕ) → last.answer ≡ polled (quiet time)
        → All (λ a. a.time + 12000 ≤ reading_of last.call → endings a.place (last ∷ before) ≡ 1) (requests (last ∷ before))
    nobody_forgotten kept = ((subst (Bounded 12000) ends_with (demand_3 chain).in_time).0 kept).0

    -- and no accepted call at all comes later than that while a request is live
    pub none_live_later : ClockRule (last ∷ before) → is_accepted last.answer ≡ true
        → All (λ a. reading_of last.call ≤ a.time + 12000) (live_after before)
    none_live_later kept = ((subst (Bounded 12000) ends_with (demand_3 chain).in_time).0 kept).1

  -- a poll that answers quiet names a time of 1 to 3,000 ms while anybody is live, and *no deadline* only where nobody is
  pub quiet_names_a_time : (c : Call) (r : Result) → Promise e store c r → (time : Option ℕ) → r.answer ≡ polled (quiet time)
      → QuietTime (ledger_of e store).live time
  quiet_names_a_time c r promised time answered =
      let known = refines chain in
      let same = known.ledger ∙ sym (ap (λ (s : Run). s.ledger) (run_agrees live_max given calls)) in
      let said = sym (steps e store c r known.sound promised).answers ∙ answered in
      subst (λ (l : Ledger). QuietTime l.live time) (sym same)
      (quiet_time live_max three_are_few given calls c time
      (ap (λ (l : Ledger). (step live_max l c).answer) (sym same) ∙ said))
