-- Document 01, "What demand 3 compares": a list of calls on an endpoint. "The list starts from the endpoint that open hands back,
-- whatever it was given, also when it refuses. Nobody else writes the endpoint between calls."
use Rattle.std.specs.Prelude.{ℕ, List, [], ◌∷◌, ◌++◌}
use Rattle.ledger.specs.Calls.{Call}
use Rattle.ledger.specs.Runs.{Outcome}
use Rattle.endpoint.specs.declared.Endpoint.{Endpoint}
use Rattle.host_answers.specs.Promises.{Result, Promise, Opened}
use Rattle.host_answers.specs.Answers as returned

-- what the caller of a call sees of its result: its outcome
abbrev pub outcome_from : Result → Outcome
outcome_from r = record { answer = r.answer; buffers = r.buffers }

-- what open was given and has handed back; the calls after it, in their order, and the outcome of each; and the endpoint and the store
-- afterwards. A call is related to the next by the promise that its own `ensures` cites (`host::submit`, `receive` and `poll` cite
-- `Promise` of their arguments); the store that is first lent holds any bytes, and each call brings "its own input bytes and buffers,
-- of any length and contents, and any clock"
pub data Chain (given : ℕ) (first : returned.Opened) : (calls : List Call) → List Outcome → Endpoint → (store : List ℕ) → Type 0 where
  opens : (store : List ℕ) → Opened first given → Chain given first [] [] first.endpoint store
  goes_on : {calls : List Call} {outcomes : List Outcome} {e : Endpoint} {store : List ℕ}
      → Chain given first calls outcomes e store
      → (c : Call) (r : Result)
      → Promise e store c r
      → Chain given first (calls ++ (c ∷ [])) (outcomes ++ (outcome_from r ∷ [])) r.endpoint r.store
