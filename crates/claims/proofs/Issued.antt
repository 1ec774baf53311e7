-- The ID that a submit answers is the first one not live, from the next request ID on.
use Prim.Native.Nat.{ℕ}
use mathlib.Core.Bool.{Bool}
use mathlib.Core.List.{List}
use mathlib.Core.Option.{Option, none, some}
use mathlib.Core.Path.{◌≡◌, refl}
use native.Mathlib.Omega.{arith}
use Rattle.command.specs.Payload.{Fields}
use Rattle.ledger.specs.Parts.{Ledger}
use Rattle.ledger.specs.Answers.{submitted}
use Rattle.ledger.specs.Submitting.{issued}
use Rattle.ledger.specs.Calls.{submit}
use Rattle.ledger.specs.Refusals.{refusal}
use Rattle.ledger.specs.Runs.{step, answers_to}
use Rattle.ledger.specs.Changes.{FirstNotLive}
use Rattle.ledger.proofs.Keeping.{issued_first}
use Rattle.claims.specs.Clauses.{Enough}
use Rattle.claims.proofs.Views.{has_room}
use Rattle.claims.proofs.Fine.{Fine}

pub first_not_live : (limit : ℕ) → Enough limit → (l : Ledger) → Fine limit l
    → (fields : Fields) (bytes : List ℕ) (wanted : Bool) (t id : ℕ)
    → (step limit l (submit fields bytes wanted t)).answer ≡ submitted id → FirstNotLive l id
unfolding step
first_not_live limit enough l fine fields bytes wanted t id h = go (refusal limit l (submit fields bytes wanted t)) refl h
  where
    go : (o : Option ℕ) → refusal limit l (submit fields bytes wanted t) ≡ o
        → (answers_to l (submit fields bytes wanted t) o).answer ≡ submitted id → FirstNotLive l id
    go (some n) e h = let z : ◌≡◌ {A = ℕ} 0 1 = cc in absurd (omega arith)
    go none e h =
        let room = (has_room limit l fields bytes wanted t e).1 in
        let small = fine.small in
        let few = fine.fit.few in
        let same : issued l ≡ id = cc in
        rw same at (issued_first l (omega (arith, room)) fine.next)
