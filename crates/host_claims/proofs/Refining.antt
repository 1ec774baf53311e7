-- Along a chain every outcome is the ledger's: one call at a time, by the promise that relates the endpoint before to the one after.
use Prim.Native.Nat.{ℕ}
use mathlib.Core.Bool.{false}
use mathlib.Core.List.{List, [], ◌∷◌, ◌++◌}
use mathlib.Core.Option.{Option, none, some}
use mathlib.Core.Path.{◌≡◌, refl, sym, ap, ◌∙◌}
use Rattle.ledger.specs.Parts.{live_max, Ledger}
use Rattle.ledger.specs.Answers.{Answer, refused, Done}
use Rattle.ledger.specs.Calls.{Call, lent_by}
use Rattle.ledger.specs.Refusals.{refusal}
use Rattle.ledger.specs.Runs.{open_for, accepts, answers_to, step, Outcome, outcomes_of, ledger_after, past_of, Run, start, run}
use Rattle.claims.proofs.Runs.{run_agrees, outcomes_append, ledger_append}
use Rattle.endpoint.specs.Endpoint.{ledger_of}
use Rattle.endpoint.specs.Malformed.{malformed}
use Rattle.endpoint.specs.declared.Endpoint.{Endpoint}
use Rattle.refinement.specs.Refusals.{refusal_of}
use Rattle.refinement.proofs.Sound.{same_refusal}
use Rattle.host_answers.specs.Answers.{open_answer_of, Opened}
use Rattle.host_answers.specs.Promises.{Result, ByTable, Promise}
use Rattle.host_claims.specs.Chains.{outcome_from, Chain, opens, goes_on}

-- what a promise comes to, where the endpoint is not malformed: the ledger's step, whether it refuses or not
pub record Stepped (e : Endpoint) (store : List ℕ) (c : Call) (o : Result) : Type 0 where
  pub answers : o.answer ≡ (step live_max (ledger_of e store) c).answer
  pub leaves : o.buffers ≡ (step live_max (ledger_of e store) c).buffers
  pub next : ledger_of o.endpoint o.store ≡ (step live_max (ledger_of e store) c).next
  pub sound : malformed o.endpoint ≡ false

pub steps : (e : Endpoint) (store : List ℕ) (c : Call) (o : Result) → malformed e ≡ false → Promise e store c o
    → Stepped e store c o
unfolding step
steps e store c o fine promised =
    go (refusal_of e store c) (sym (same_refusal e store c fine)) promised
  where
    go : (n : Option ℕ) → refusal live_max (ledger_of e store) c ≡ n → ByTable n e store c o → Stepped e store c o
    go none table meets =
        let same : step live_max (ledger_of e store) c ≡ accepts (ledger_of e store) c = ap (answers_to (ledger_of e store) c) table in
        record {
          answers = meets.answers ∙ ap (λ (d : Done). d.answer) (sym same);
          leaves = meets.leaves ∙ ap (λ (d : Done). d.buffers) (sym same);
          next = meets.next ∙ ap (λ (d : Done). d.next) (sym same);
          sound = meets.sound;
        }
    go (some n) table refuses =
        let same : step live_max (ledger_of e store) c ≡ record { answer = refused n; buffers = lent_by c; next = ledger_of e store } =
        ap (answers_to (ledger_of e store) c) table in
        record {
          answers = refuses.answers ∙ ap (λ (d : Done). d.answer) (sym same);
          leaves = refuses.leaves ∙ ap (λ (d : Done). d.buffers) (sym same);
          next = ledger_same refuses.keeps refuses.stores ∙ ap (λ (d : Done). d.next) (sym same);
          sound = ap malformed refuses.keeps ∙ fine;
        }
      where
        ledger_same : {e' : Endpoint} {store' : List ℕ} → e' ≡ e → store' ≡ store → ledger_of e' store' ≡ ledger_of e store
        ledger_same p q = rw (p, q)

-- a list of outcomes that is the ledger's
pub record Refines (given : ℕ) (calls : List Call) (outcomes : List Outcome) (e : Endpoint) (store : List ℕ) : Type 0 where
  pub answered : outcomes ≡ outcomes_of live_max (open_for given).next calls
  pub ledger : ledger_of e store ≡ ledger_after live_max (open_for given).next calls
  pub sound : malformed e ≡ false

-- one call more
more : {given : ℕ} {calls : List Call} {outcomes : List Outcome} {e : Endpoint} {store : List ℕ} (c : Call) (r : Result)
    → Refines given calls outcomes e store
    → Promise e store c r
    → Refines given (calls ++ (c ∷ [])) (outcomes ++ (outcome_from r ∷ [])) r.endpoint r.store
unfolding outcomes_of ledger_after
more {given} {calls} {outcomes} {e} {store} c r known promised =
    let l = (open_for given).next in
    let stepped = steps e store c r known.sound promised in
    record {
      answered = last (stepped.answers ∙ ap (λ (l : Ledger). (step live_max l c).answer) known.ledger)
          (stepped.leaves ∙ ap (λ (l : Ledger). (step live_max l c).buffers) known.ledger) known.answered
          ∙ sym (outcomes_append live_max l calls (c ∷ []));
      ledger = stepped.next ∙ ap (λ (l : Ledger). (step live_max l c).next) known.ledger
          ∙ sym (ledger_append live_max l calls (c ∷ []));
      sound = stepped.sound;
    }
  where
    last : {a a' : Answer} {b b' : List (List ℕ)} {os os' : List Outcome} → a ≡ a' → b ≡ b' → os ≡ os'
        → ◌≡◌ {A = List Outcome} (os ++ (record { answer = a; buffers = b } ∷ [])) (os' ++ (record { answer = a'; buffers = b' } ∷ []))
    last p q s = rw (p, q, s)

-- every chain
pub refines : {given : ℕ} {first : Opened} {calls : List Call} {outcomes : List Outcome} {e : Endpoint} {store : List ℕ}
    → Chain given first calls outcomes e store → Refines given calls outcomes e store
unfolding outcomes_of ledger_after
refines (opens store opened) = record { answered = refl; ledger = opened.next store; sound = opened.sound }
refines (goes_on chain c r promised) = more c r (refines chain) promised

-- what has happened is what a run of the ledger shows
pub past_of_law : {given : ℕ} {calls : List Call} {outcomes : List Outcome} {e : Endpoint} {store : List ℕ}
    → Refines given calls outcomes e store → (run live_max (start given) calls).past ≡ past_of calls outcomes
past_of_law {given} {calls} known =
    ap (λ (s : Run). s.past) (run_agrees live_max given calls) ∙ ap (past_of calls) (sym known.answered)

-- and open's own answer
pub opened_as : {given : ℕ} {first : Opened} {calls : List Call} {outcomes : List Outcome} {e : Endpoint} {store : List ℕ}
    → Chain given first calls outcomes e store → open_answer_of first.answer ≡ (open_for given).answer
opened_as (opens store opened) = opened.answers
opened_as (goes_on chain c r promised) = opened_as chain
