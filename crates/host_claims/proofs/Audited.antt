-- The request-row audit of what the calls hand back: after every list of calls it finds none among the live requests.
use Prim.Native.Nat.{ℕ}
use mathlib.Core.List.{List}
use Rattle.std.specs.Prelude.{None}
use mathlib.Core.Path.{◌≡◌, sym, ap, subst, ◌∙◌}
use Rattle.ledger.specs.Parts.{live_max, Ledger}
use Rattle.ledger.specs.Calls.{Call}
use Rattle.ledger.specs.Runs.{reserved_for, Outcome, Run}
use Rattle.claims.proofs.Laws.{ledger_claims_3}
use Rattle.claims.proofs.Runs.{run_agrees}
use Rattle.audit.specs.Audit.{audit}
use Rattle.endpoint.specs.Endpoint.{rows_of}
use Rattle.endpoint.specs.declared.Endpoint.{Endpoint}
use Rattle.record_audit.specs.Records.{ids_of}
use Rattle.record_audit.proofs.Laws.{sound_endpoint}
use Rattle.host_answers.specs.Answers as returned
use Rattle.host_claims.specs.Chains.{Chain}
use Rattle.host_claims.proofs.Laws.{demand_3, never_malformed}

module _ {given : ℕ} {first : returned.Opened} {calls : List Call} {outcomes : List Outcome} {e : Endpoint} {store : List ℕ}
    (chain : Chain given first calls outcomes e store) where
  -- the endpoint keeps the R that open was given, or 0 where open refused it
  keeps_reserved : e.reserved ≡ reserved_for given
  keeps_reserved =
      ap (λ (l : Ledger). l.reserved) (demand_3 chain).ledger
      ∙ sym (ap (λ (s : Run). s.ledger.reserved) (run_agrees live_max given calls)) ∙ (ledger_claims_3 given calls).same

  -- no live request has an ID that is 0, at most R, or equal to an earlier one's
  pub audit_finds_none : audit (reserved_for given) (ids_of (rows_of e.live)) ≡ None
  audit_finds_none = subst (λ (r : ℕ). audit r (ids_of (rows_of e.live)) ≡ None) keeps_reserved (sound_endpoint e (never_malformed chain))
