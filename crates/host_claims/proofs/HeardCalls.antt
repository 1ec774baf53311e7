-- Demand 2's statement about cuts for the calls on an endpoint: the ledger's, of the endpoint that stands for it.
use Prim.Native.Nat.{ℕ}
use mathlib.Core.List.{List}
use mathlib.Core.Path.{◌≡◌, sym, ap, subst, ◌∙◌}
use lib.ListN.{take}
use Rattle.line.specs.Receiving.{more}
use Rattle.ledger.specs.Parts.{live_max, Ledger}
use Rattle.ledger.specs.Calls.{Call}
use Rattle.ledger.specs.Runs.{Outcome, Entry, past_of, Run, start, run}
use Rattle.claims.specs.Hearing.{bytes_taken, last_receive, HeardAs, HeardAll, HeardAlike}
use Rattle.claims.proofs.Hearing as hearing
use Rattle.claims.proofs.Laws as ledger
use Rattle.claims.proofs.Runs.{run_agrees}
use Rattle.endpoint.specs.declared.Endpoint.{Endpoint}
use Rattle.host_answers.specs.Answers as returned
use Rattle.host_claims.specs.Chains.{Chain}
use Rattle.host_claims.proofs.Refining.{refines, past_of_law}

module _ {given : ℕ} {first : returned.Opened} {calls : List Call} {outcomes : List Outcome} {e : Endpoint} {store : List ℕ}
    (chain : Chain given first calls outcomes e store) where
  -- what has happened, and what is held, as a run of the ledger shows them
  same_past : (run live_max (start given) calls).past ≡ past_of calls outcomes
  same_past = past_of_law (refines chain)

  same_held : (run live_max (start given) calls).ledger.held ≡ take e.held store
  same_held =
      ap (λ (s : Run). s.ledger.held) (run_agrees live_max given calls) ∙ sym (ap (λ (l : Ledger). l.held) (refines chain).ledger)

  pub as_joined : HeardAs (past_of calls outcomes) (take e.held store)
  as_joined = rw (same_past, same_held) at (ledger.heard_as_joined live_max given calls)

  pub all_answered : last_receive (past_of calls outcomes) ≡ more → HeardAll (past_of calls outcomes) (take e.held store)
  all_answered last =
      rw (same_past, same_held) at
      (ledger.heard_all live_max given calls (subst (λ (past : List Entry). last_receive past ≡ more) (sym same_past) last))

pub alike : {given given' : ℕ} {first first' : returned.Opened} {calls calls' : List Call} {outcomes outcomes' : List Outcome}
    {e e' : Endpoint} {store store' : List ℕ} → (chain : Chain given first calls outcomes e store)
    (chain' : Chain given' first' calls' outcomes' e' store')
    → bytes_taken (past_of calls outcomes) ≡ bytes_taken (past_of calls' outcomes')
    → last_receive (past_of calls outcomes) ≡ more → last_receive (past_of calls' outcomes') ≡ more
    → HeardAlike (past_of calls outcomes) (past_of calls' outcomes') (take e.held store) (take e'.held store')
alike chain chain' same last last' = hearing.alike _ _ _ _ (all_answered chain last) (all_answered chain' last') same
