-- Demand 3 of every chain: what the ledger's theorems say, of the outcomes that are the ledger's (`Refining`). So open begins a chain
-- that meets it, and a call that keeps its promise makes every chain longer by one that does.
use Prim.Native.Nat.{ℕ}
use mathlib.Core.List.{List}
use mathlib.Core.Path.{subst}
use Rattle.ledger.specs.Parts.{live_max}
use Rattle.ledger.specs.Calls.{Call}
use Rattle.ledger.specs.Runs.{reserved_for, Outcome}
use Rattle.claims.specs.Clauses.{OutcomeClaims, Bounded}
use Rattle.claims.proofs.Laws.{outcome_claims_3, ends_in_time_3}
use Rattle.endpoint.specs.declared.Endpoint.{Endpoint}
use Rattle.host_answers.specs.Promises.{Result, Promise}
use Rattle.host_answers.specs.Promises as promise
use Rattle.host_answers.specs.Answers as returned
use Rattle.host_claims.specs.Chains.{Chain, opens, goes_on}
use Rattle.host_claims.specs.Claims.{Demand3, Extends, Begins}
use Rattle.host_claims.proofs.Refining.{refines, past_of_law, opened_as}

pub demand_3 : {given : ℕ} {first : returned.Opened} {calls : List Call} {outcomes : List Outcome} {e : Endpoint} {store : List ℕ}
    → Chain given first calls outcomes e store → Demand3 given first calls outcomes e store
demand_3 {given} {first} {calls} {outcomes} {e} {store} chain =
    let known = refines chain in
    let past = past_of_law known in
    record {
      opened = opened_as chain;
      answered = known.answered;
      ledger = known.ledger;
      sound = known.sound;
      claims = subst (OutcomeClaims live_max (reserved_for given)) past (outcome_claims_3 given calls);
      in_time = subst (Bounded 12000) past (ends_in_time_3 given calls);
    }

pub extends : (e : Endpoint) (store : List ℕ) (c : Call) (r : Result) → Promise e store c r → Extends e store c r
extends e store c r promised given first calls outcomes chain =
    let longer = goes_on chain c r promised in record { list = longer; meets = demand_3 longer }

pub begins : (r : returned.Opened) (given : ℕ) → promise.Opened r given → Begins r given
begins r given promised store = let list = opens store promised in record { list = list; meets = demand_3 list }
