-- From the table and the ledger to an accepted call's promise: its endpoint is sound, and stays so.
use Prim.Native.Nat.{ℕ}
use mathlib.Core.Bool.{false}
use mathlib.Core.List.{List}
use mathlib.Core.Option.{none}
use mathlib.Core.Path.{◌≡◌}
use borrow.Author.Tests.{ltb-false}
use Rattle.ledger.specs.Calls.{Call}
use Rattle.ledger.specs.Refusals.{Line, first_of}
use Rattle.ledger.specs.Runs.{accepts}
use Rattle.endpoint.specs.Endpoint.{ledger_of}
use Rattle.endpoint.specs.Malformed.{malformed}
use Rattle.endpoint.specs.declared.Endpoint.{Endpoint}
use Rattle.refinement.specs.Refusals.{refusal_of}
use Rattle.refinement.proofs.Sound.{next_sound}
use Rattle.host_answers.specs.Promises.{Result, Promise}
use Rattle.refusals.specs.Code.{with_endpoint}
use Rattle.refusals.proofs.Table.{passed}
use Rattle.host_answers.specs.Code.{Sound, Does}

pub meets : (e : Endpoint) (store : List ℕ) (c : Call) (o : Result) → malformed e ≡ false → refusal_of e store c ≡ none
    → Does (accepts (ledger_of e store) c) o → Promise e store c o
meets e store c o fine table does =
    rw table (record {
      answers = does.answers;
      leaves = does.leaves;
      next = does.next;
      sound = next_sound e o.endpoint store o.store c fine table does.next does.fits does.holds;
    })

-- an accepted call's endpoint
pub sound_of : (e : Endpoint) (clock : ℕ) (own : List Line) → first_of (with_endpoint e clock own) ≡ none → Sound e clock
sound_of e clock own h =
    let p = passed e clock own h in record { sound = p.fine; forward = ltb-false clock e.clock p.early }
