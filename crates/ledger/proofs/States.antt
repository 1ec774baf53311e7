-- What a search for a request showed of its state.
use Prim.Native.Nat.{ℕ}
use mathlib.Core.Bool.{Bool, true, false}
use mathlib.Core.Option.{some}
use mathlib.Core.Path.{◌≡◌, refl}
use native.Mathlib.Omega.{arith}
use Rattle.message.proofs.Headers.{both}
use Rattle.link.specs.Frames.{Frame, acknowledged_by}
use Rattle.ledger.specs.Parts.{State, queued, in_flight, waiting, Request}
use Rattle.ledger.specs.Answers.{Command}
use Rattle.ledger.specs.Receiving.{frame_in, provided, acknowledged_in, is_sent, matches}
use Rattle.ledger.specs.Polling.{overdue_in, queued_in}
use Rattle.ledger.proofs.Cases.{by_test}

pub flies_state : (s : State) {f : Frame} → frame_in s ≡ some f → s ≡ in_flight f
flies_state queued h = let z : ◌≡◌ {A = ℕ} 0 1 = cc in absurd (omega arith)
flies_state (in_flight g) h = cc
flies_state (waiting since) h = let z : ◌≡◌ {A = ℕ} 0 1 = cc in absurd (omega arith)

pub acknowledged_state : (seq : ℕ) (s : State) {f : Frame} → acknowledged_in seq s ≡ some f → s ≡ in_flight f
acknowledged_state seq queued h = let z : ◌≡◌ {A = ℕ} 0 1 = cc in absurd (omega arith)
acknowledged_state seq (in_flight g) {f} h =
    by_test (λ b. provided b g ≡ some f → in_flight g ≡ in_flight f) (acknowledged_by g seq)
    (λ e h. cc)
    (λ e h. let z : ◌≡◌ {A = ℕ} 0 1 = cc in absurd (omega arith))
    h
acknowledged_state seq (waiting since) h = let z : ◌≡◌ {A = ℕ} 0 1 = cc in absurd (omega arith)

-- a test that was passed
pub provided_test : {what : Unit {0}} (b : Bool) → provided b tt ≡ some what → b ≡ true
provided_test true h = refl
provided_test false h = let z : ◌≡◌ {A = ℕ} 0 1 = cc in absurd (omega arith)

-- in flight or waiting, and a response is wanted
pub matched_state : (c : Command) (q : Request) {u : Unit {0}} → provided (matches c q) tt ≡ some u
    → (is_sent q.state ≡ true) × (q.wanted ≡ true)
unfolding matches
matched_state c q h =
    let one = both (is_sent q.state) _ (provided_test (matches c q) h) in (one.0, (both q.wanted _ one.1).0)

pub queued_state : (s : State) {u : Unit {0}} → queued_in s ≡ some u → s ≡ queued
queued_state queued h = refl
queued_state (in_flight g) h = let z : ◌≡◌ {A = ℕ} 0 1 = cc in absurd (omega arith)
queued_state (waiting since) h = let z : ◌≡◌ {A = ℕ} 0 1 = cc in absurd (omega arith)

-- since when it waits
pub record Waits (s : State) : Type 0 where
  pub since : ℕ
  pub state : s ≡ waiting since

pub overdue_state : (clock : ℕ) (s : State) {u : Unit {0}} → overdue_in clock s ≡ some u → Waits s
overdue_state clock queued h = let z : ◌≡◌ {A = ℕ} 0 1 = cc in absurd (omega arith)
overdue_state clock (in_flight g) h = let z : ◌≡◌ {A = ℕ} 0 1 = cc in absurd (omega arith)
overdue_state clock (waiting since) h = record { since = since; state = refl }
