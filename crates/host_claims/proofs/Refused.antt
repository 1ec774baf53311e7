-- Demand 1 for the calls after open: a call is refused exactly where the table refuses it, and then nothing changes.
use Prim.Native.Nat.{ℕ}
use mathlib.Core.Bool.{Bool, true, false}
use mathlib.Core.List.{List}
use mathlib.Core.Option.{some}
use mathlib.Core.Path.{◌≡◌, refl, sym, ap, ◌∙◌}
use Rattle.ledger.specs.Parts.{live_max}
use Rattle.ledger.specs.Answers.{refused}
use Rattle.ledger.specs.Calls.{Call}
use Rattle.ledger.specs.Refusals.{first_of}
use Rattle.claims.proofs.Laws.{refused_by_table}
use Rattle.endpoint.specs.Endpoint.{ledger_of}
use Rattle.endpoint.specs.Malformed.{malformed}
use Rattle.endpoint.specs.declared.Endpoint.{Endpoint}
use Rattle.refinement.specs.Refusals.{refusal_of}
use Rattle.refinement.proofs.Sound.{same_refusal}
use Rattle.host_answers.specs.Promises.{Result, Refuses, Promise}
use Rattle.host_claims.proofs.Refining.{steps}

module _ (e : Endpoint) (store : List ℕ) (c : Call) (o : Result) (promised : Promise e store c o) where
  -- where the table refuses
  pub refused_where : (n : ℕ) → refusal_of e store c ≡ some n → Refuses n e store c o
  refused_where n table = rw table at promised

  -- a malformed endpoint is refused by the first line
  first_line : malformed e ≡ true → refusal_of e store c ≡ some 1
  unfolding first_of
  first_line bad = rw bad

  -- and only there
  pub refused_only : (n : ℕ) → o.answer ≡ refused n → refusal_of e store c ≡ some n
  refused_only n h = go (malformed e) refl
    where
      numbers : {n m : ℕ} → refused n ≡ refused m → n ≡ m
      numbers p = cc

      go : (b : Bool) → malformed e ≡ b → refusal_of e store c ≡ some n
      go true bad =
          let first = first_line bad in
          first ∙ ap some (numbers (sym (refused_where 1 first).answers ∙ h))
      go false fine =
          same_refusal e store c fine
          ∙ refused_by_table live_max (ledger_of e store) c n (sym (steps e store c o fine promised).answers ∙ h)
