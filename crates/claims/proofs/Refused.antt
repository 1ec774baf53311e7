-- A call is refused exactly where the table refuses it, and then nothing changes; an accepted one sets the clock.
use Prim.Native.Nat.{ℕ}
use mathlib.Core.Bool.{true}
use mathlib.Core.Option.{Option, none, some}
use mathlib.Core.Path.{◌≡◌, refl}
use native.Mathlib.Omega.{arith}
use Rattle.ledger.specs.Parts.{Ledger}
use Rattle.ledger.specs.Answers.{refused, Done}
use Rattle.ledger.specs.Receiving as receiving
use Rattle.ledger.specs.Polling as polling
use Rattle.ledger.specs.Calls.{Call, submit, receive, poll, reading_of, lent_by}
use Rattle.ledger.specs.Refusals.{refusal}
use Rattle.ledger.specs.Runs.{step, answers_to}
use Rattle.claims.specs.Trace.{is_accepted}
use Rattle.claims.proofs.Views.{View, refuses, accepts, view}

pub changes_nothing : (limit : ℕ) (l : Ledger) (c : Call) (n : ℕ) → refusal limit l c ≡ some n
    → step limit l c ≡ record { answer = refused n; buffers = lent_by c; next = l }
unfolding step
changes_nothing limit l c n h = rw h

-- what the table does not refuse is accepted
not_refused : (l : Ledger) (c : Call) → is_accepted (answers_to l c none).answer ≡ true
unfolding receiving.receive
not_refused l (submit fields bytes wanted clock) = refl
not_refused l (receive bytes reply buffer clock) = refl
not_refused l (poll output clock) = go (polling.act l clock)
  where
    go : (a : polling.Act) → is_accepted (polling.polled_as l a output clock).answer ≡ true
    go (polling.does p bytes next live) = refl

pub by_table : (limit : ℕ) (l : Ledger) (c : Call) (n : ℕ) → (step limit l c).answer ≡ refused n → refusal limit l c ≡ some n
unfolding step
by_table limit l c n h = go (refusal limit l c) refl h
  where
    go : (o : Option ℕ) → refusal limit l c ≡ o → (answers_to l c o).answer ≡ refused n → refusal limit l c ≡ some n
    go none e k =
        let taken = not_refused l c in
        let z : ◌≡◌ {A = ℕ} 0 1 = cc in absurd (omega arith)
    go (some m) e k = cc

-- and an accepted call's reading is the clock
pub sets_clock : (limit : ℕ) (l : Ledger) (c : Call) → is_accepted (step limit l c).answer ≡ true → (step limit l c).next.clock ≡ reading_of c
sets_clock limit l c h = go (step limit l c) (view limit l c) h
  where
    go : (d : Done) → View limit l c d → is_accepted d.answer ≡ true → d.next.clock ≡ reading_of c
    go d (refuses n number buffers same) h = let z : ◌≡◌ {A = ℕ} 0 1 = cc in absurd (omega arith)
    go d (accepts go_on accepted keeps change) h = keeps.clock
