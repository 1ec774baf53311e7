-- One call after a list of calls, from its contract: where the table does not refuse it, it comes to what the ledger does, and the list goes
-- on with it.
use Prim.Native.Nat.{ℕ, ◌≤◌}
use mathlib.Core.Bool.{false}
use mathlib.Core.List.{List}
use mathlib.Core.Option.{none}
use mathlib.Core.Path.{sym, ◌≡◌, subst, ap, ◌∙◌}
use borrow.Author.Tests.{le-ltb}
use Rattle.ledger.specs.Parts.{live_max, Ledger}
use Rattle.ledger.specs.Answers.{Answer, Done}
use Rattle.ledger.specs.Calls.{Call, reading_of}
use Rattle.ledger.specs.Refusals.{malformed, first_of, own_lines, refusal}
use Rattle.ledger.specs.Runs.{accepts, answers_to, step, Outcome}
use Rattle.endpoint.specs.Endpoint.{ledger_of}
use Rattle.endpoint.specs.declared.Endpoint.{Endpoint}
use Rattle.refinement.proofs.Sound.{ledger_sound}
use Rattle.host_answers.specs.Promises.{Result, Promise}
use Rattle.host_answers.specs.Answers as returned
use Rattle.host_claims.specs.Chains.{Chain}
use Rattle.host_claims.specs.Claims.{Extends}
use Rattle.host_claims.proofs.Laws.{never_malformed}
use Rattle.host_claims.proofs.Refining.{steps}
use Rattle.client_parts.specs.Parts.{told, and}

-- what a call comes to
pub record Comes (r : Result) (d : Done) : Type 0 where
  pub answers : r.answer ≡ d.answer
  pub leaves : r.buffers ≡ d.buffers
  pub next : ledger_of r.endpoint r.store ≡ d.next

module _ {given : ℕ} {begun : returned.Opened} {calls : List Call} {outcomes : List Outcome} {e : Endpoint} {store : List ℕ}
    (chain : Chain given begun calls outcomes e store) where
  -- a call that the table does not refuse
  module _ {l : Ledger} (stands : ledger_of e store ≡ l) (c : Call) (r : Result) (promised : Promise e store c r)
      (on : l.clock ≤ reading_of c) (passes : first_of (own_lines live_max l c) ≡ none) where
    sound : malformed live_max l ≡ false
    sound = subst (λ (l : Ledger). malformed live_max l ≡ false) stands (ledger_sound e store (never_malformed chain))

    accepted : refusal live_max l c ≡ none
    unfolding first_of
    accepted = rw (sound, le-ltb (reading_of c) l.clock on) passes

    stepped : step live_max (ledger_of e store) c ≡ accepts l c
    unfolding step
    stepped = subst (λ (k : Ledger). step live_max k c ≡ accepts l c) (sym stands) (ap (answers_to l c) accepted)

    pub comes : {d : Done} → accepts l c ≡ d → Comes r d
    comes {d} same =
        let does = steps e store c r (never_malformed chain) promised in
        let all = stepped ∙ same in
        record {
          answers = does.answers ∙ ap (λ (d : Done). d.answer) all;
          leaves = does.leaves ∙ ap (λ (d : Done). d.buffers) all;
          next = does.next ∙ ap (λ (d : Done). d.next) all;
        }

  -- and the list with it
  pub with_call : (c : Call) (r : Result) → Extends e store c r → {a : Answer} {buffers : List (List ℕ)} → r.answer ≡ a → r.buffers ≡ buffers
      → Chain given begun (and calls c) (and outcomes (told a buffers)) r.endpoint r.store
  with_call c r extends {a} {buffers} p q =
      let longer = (extends given begun calls outcomes chain).list in rw (p, q) at longer
