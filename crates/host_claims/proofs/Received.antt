-- Demand 2 for receive: an accepted one gives the line's item, takes the line's bytes and holds what the line holds.
use Prim.Native.Nat.{ℕ}
use mathlib.Core.List.{List}
use mathlib.Core.Path.{refl, ap}
use Rattle.ledger.specs.Parts.{Ledger}
use Rattle.ledger.specs.Receiving as ledger
use Rattle.ledger.specs.Calls.{receive}
use Rattle.ledger.specs.Runs.{accepts}
use Rattle.endpoint.specs.Endpoint.{ledger_of}
use Rattle.endpoint.specs.declared.Endpoint.{Endpoint}
use Rattle.host_answers.specs.Answers.{Received}
use Rattle.host_answers.specs.Promises.{Meets, receive_result}
use Rattle.host_answers.specs.Promises as promise
use Rattle.host_claims.specs.Claims.{Gives, Receipts}

gives : (r : Received) (e : Endpoint) (bytes reply buffer : List ℕ) (clock : ℕ) (store exit reply_exit buffer_exit : List ℕ)
    → Meets (accepts (ledger_of e store) (receive bytes reply buffer clock)) (receive_result r exit reply_exit buffer_exit)
    → Gives r e bytes store exit
unfolding ledger.receive
gives r e bytes reply buffer clock store exit reply_exit buffer_exit meets = record {
  receipt = _;
  answers = meets.answers;
  item = refl;
  taken = refl;
  held = ap (λ (l : Ledger). l.held) meets.next;
}

pub receives_items : (r : Received) (e : Endpoint) (bytes reply buffer : List ℕ) (clock : ℕ)
    (store exit reply_exit buffer_exit : List ℕ) → promise.Received r e bytes reply buffer clock store exit reply_exit buffer_exit
    → Receipts r e bytes reply buffer clock store exit
receives_items r e bytes reply buffer clock store exit reply_exit buffer_exit promised accepted =
    gives r e bytes reply buffer clock store exit reply_exit buffer_exit (rw accepted at promised)
