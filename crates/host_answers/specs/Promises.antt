-- What the four calls promise: the answer, the endpoint handed back, the store and the whole contents of every lent buffer.
use Rattle.std.specs.Prelude.{ℕ, Bool, false, List, [], ◌∷◌, ◌≡◌}
use Rattle.std.proofs.Math.Option.{Option, none, some}
use Rattle.command.specs.Promises.{fields_of}
use Rattle.command.specs.declared.Fields.{Fields}
use Rattle.ledger.specs.Answers.{Answer, refused, Done}
use Rattle.ledger.specs.Calls.{Call, submit, receive, poll, lent_by}
use Rattle.ledger.specs.Runs.{open_for, accepts}
use Rattle.endpoint.specs.Endpoint.{ledger_of}
use Rattle.endpoint.specs.Malformed.{malformed}
use Rattle.endpoint.specs.declared.Endpoint.{Endpoint}
use Rattle.refinement.specs.Refusals.{refusal_of}
use Rattle.host_answers.specs.Answers.{open_answer_of, submit_answer_of, receive_answer_of, poll_answer_of}
use Rattle.host_answers.specs.Answers as returned

-- what a call on an endpoint comes to: its answer, "the whole contents of every lent buffer afterwards", the endpoint handed back
-- and the store
pub record Result : Type 0 where
  pub answer : Answer
  pub buffers : List (List ℕ)
  pub endpoint : Endpoint
  pub store : List ℕ

-- that of each call, from what it returns and what it leaves in the store and the buffers
abbrev pub submit_result : returned.Submitted → (store : List ℕ) → Result
submit_result r store = record { answer = submit_answer_of r.answer; buffers = []; endpoint = r.endpoint; store = store }

abbrev pub receive_result : returned.Received → (store reply buffer : List ℕ) → Result
receive_result r store reply buffer =
    record { answer = receive_answer_of r.answer; buffers = reply ∷ buffer ∷ []; endpoint = r.endpoint; store = store }

abbrev pub poll_result : returned.Polled → (store output : List ℕ) → Result
poll_result r store output = record { answer = poll_answer_of r.answer; buffers = output ∷ []; endpoint = r.endpoint; store = store }

-- "Each hands back its number, .. endpoint and buffers unchanged, clock included."
pub record Refuses (number : ℕ) (e : Endpoint) (store : List ℕ) (c : Call) (o : Result) : Type 0 where
  pub answers : o.answer ≡ refused number
  pub leaves : o.buffers ≡ lent_by c
  pub keeps : o.endpoint ≡ e
  pub stores : o.store ≡ store

-- "Each answer equals the ledger's in all its parts ..; so do the whole contents of every lent buffer afterwards."; the endpoint
-- handed back stands for the ledger afterwards, and is not malformed. What stands in the store beyond that is not fixed
pub record Meets (d : Done) (o : Result) : Type 0 where
  pub answers : o.answer ≡ d.answer
  pub leaves : o.buffers ≡ d.buffers
  pub next : ledger_of o.endpoint o.store ≡ d.next
  pub sound : malformed o.endpoint ≡ false

-- the one where the table refuses the call, the other where it does not
abbrev pub ByTable : Option ℕ → Endpoint → (store : List ℕ) → Call → Result → Type 0
ByTable none e store c o = Meets (accepts (ledger_of e store) c) o
ByTable (some number) e store c o = Refuses number e store c o

-- the promise of a call after open
abbrev pub Promise : Endpoint → (store : List ℕ) → Call → Result → Type 0
Promise e store c o = ByTable (refusal_of e store c) e store c o

-- submit
abbrev pub Submitted : returned.Submitted → Endpoint → Fields → (bytes : List ℕ) (wanted : Bool) (clock : ℕ)
    → (store exit : List ℕ) → Type 0
Submitted r e fields bytes wanted clock store exit =
    Promise e store (submit (fields_of fields) bytes wanted clock) (submit_result r exit)

-- receive, with the reply and the data buffer at entry and at exit
abbrev pub Received : returned.Received → Endpoint → (bytes reply buffer : List ℕ) (clock : ℕ)
    → (store exit reply_exit buffer_exit : List ℕ) → Type 0
Received r e bytes reply buffer clock store exit reply_exit buffer_exit =
    Promise e store (receive bytes reply buffer clock) (receive_result r exit reply_exit buffer_exit)

-- poll, with the output at entry and at exit
abbrev pub Polled : returned.Polled → Endpoint → (output : List ℕ) (clock : ℕ) → (store exit output_exit : List ℕ) → Type 0
Polled r e output clock store exit output_exit = Promise e store (poll output clock) (poll_result r exit output_exit)

-- open: "It starts fresh for what open was given, or for R = 0 where open refused.", whatever the store holds
pub record Opened (r : returned.Opened) (given : ℕ) : Type 0 where
  pub answers : open_answer_of r.answer ≡ (open_for given).answer
  pub next : (store : List ℕ) → ledger_of r.endpoint store ≡ (open_for given).next
  pub sound : malformed r.endpoint ≡ false
