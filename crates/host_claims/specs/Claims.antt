-- What is claimed of the calls on an endpoint: demand 3, "a single claim about the list", and demand 2 for receive.
use Rattle.std.specs.Prelude.{ℕ, false, List, [], ◌∷◌, ◌++◌, ◌≡◌, take}
use Rattle.std.proofs.Math.Option.{none}
use Rattle.line.specs.Receiving as line
use Rattle.ledger.specs.Parts.{live_max}
use Rattle.ledger.specs.Answers.{Receipt, received}
use Rattle.ledger.specs.Calls.{Call, receive}
use Rattle.ledger.specs.Runs.{open_for, reserved_for, Outcome, outcomes_of, ledger_after, past_of}
use Rattle.claims.specs.Clauses.{OutcomeClaims, Bounded}
use Rattle.endpoint.specs.Endpoint.{ledger_of}
use Rattle.endpoint.specs.Malformed.{malformed}
use Rattle.endpoint.specs.declared.Endpoint.{Endpoint}
use Rattle.refinement.specs.Refusals.{refusal_of}
use Rattle.host_answers.specs.Answers.{open_answer_of, receive_answer_of}
use Rattle.host_answers.specs.Promises.{Result}
use Rattle.host_answers.specs.Answers as returned
use Rattle.host_claims.specs.Chains.{Chain, outcome_from}

-- demand 3, of what open was given and handed back, the calls after it and their outcomes, each in their order, and of the endpoint and
-- the store afterwards
pub record Demand3 (given : ℕ) (first : returned.Opened) (calls : List Call) (outcomes : List Outcome) (e : Endpoint)
    (store : List ℕ) : Type 0 where
  -- open's answer is the ledger's
  pub opened : open_answer_of first.answer ≡ (open_for given).answer
  -- "Each answer equals the ledger's in all its parts, refusal number and endings included; so do the whole contents of every lent
  -- buffer afterwards."
  pub answered : outcomes ≡ outcomes_of live_max (open_for given).next calls
  -- the endpoint stands for the ledger, and refusal 1 never comes
  pub ledger : ledger_of e store ≡ ledger_after live_max (open_for given).next calls
  pub sound : malformed e ≡ false
  -- of these calls and outcomes: endings and frames belong to a request, requests end at most once, frames go out at most three times
  -- and are equal, live IDs are distinct and unreserved, and polls at one reading come to rest
  pub claims : OutcomeClaims live_max (reserved_for given) (past_of calls outcomes)
  -- while "the rule for the clock" is kept, a request accepted at T has ended once a poll at T + 12,000 ms or later answers quiet, and no
  -- accepted call comes later than that while it is live
  pub in_time : Bounded 12000 (past_of calls outcomes)

-- a call that was made after such a list: the list with the call and its own outcome is one, and meets demand 3
pub record Extended (given : ℕ) (first : returned.Opened) (calls : List Call) (outcomes : List Outcome) (c : Call) (r : Result) : Type 0 where
  pub list : Chain given first (calls ++ (c ∷ [])) (outcomes ++ (outcome_from r ∷ [])) r.endpoint r.store
  pub meets : Demand3 given first (calls ++ (c ∷ [])) (outcomes ++ (outcome_from r ∷ [])) r.endpoint r.store

-- what each call's contract says beside its promise: it extends every list of calls that ends in the endpoint and the store handed in
abbrev pub Extends : Endpoint → (store : List ℕ) → Call → Result → Type 0
Extends e store c r =
    (given : ℕ) (first : returned.Opened) (calls : List Call) (outcomes : List Outcome) → Chain given first calls outcomes e store
    → Extended given first calls outcomes c r

-- and open's: it begins one, whatever the store holds
pub record Begun (given : ℕ) (first : returned.Opened) (store : List ℕ) : Type 0 where
  pub list : Chain given first [] [] first.endpoint store
  pub meets : Demand3 given first [] [] first.endpoint store

abbrev pub Begins : returned.Opened → (given : ℕ) → Type 0
Begins r given = (store : List ℕ) → Begun given r store

-- demand 2 for a receive that the table does not refuse: item, bytes taken and bytes held then, as the line gives them
pub record Gives (r : returned.Received) (e : Endpoint) (bytes store exit : List ℕ) : Type 0 where
  pub receipt : Receipt
  pub answers : receive_answer_of r.answer ≡ received receipt
  pub item : receipt.item ≡ (line.receive (take e.held store) bytes).answer
  pub taken : receipt.taken ≡ (line.receive (take e.held store) bytes).taken
  pub held : take r.endpoint.held exit ≡ (line.receive (take e.held store) bytes).held

abbrev pub Receipts : returned.Received → Endpoint → (bytes reply buffer : List ℕ) (clock : ℕ) (store exit : List ℕ) → Type 0
Receipts r e bytes reply buffer clock store exit = refusal_of e store (receive bytes reply buffer clock) ≡ none → Gives r e bytes store exit
