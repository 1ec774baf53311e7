-- Who keeps polling at one reading meets a *quiet* answer, and so every request whose time is up has ended: from what is claimed of
-- calls and outcomes alone.
use Prim.Native.Nat.{ℕ, zero, suc, ◌+◌, ◌≤◌, ◌<◌}
use mathlib.Core.Bool.{false, cond as if}
use mathlib.Core.List.{List, [], ◌∷◌}
use mathlib.Core.Option.{Option, none}
use mathlib.Core.Path.{◌≡◌, refl, subst}
use native.Mathlib.Omega.{arith}
use borrow.Author.Tests.{eq-eqb}
use Rattle.ledger.specs.Lists.{All}
use Rattle.ledger.specs.Answers.{Poll, sent, ended, quiet, Answer, refused, opened, submitted, received, polled}
use Rattle.ledger.specs.Calls.{reading_of}
use Rattle.ledger.specs.Runs.{Entry}
use Rattle.claims.specs.Trace.{Asked, is_accepted, id_in, endings, requests}
use Rattle.claims.specs.ClockRule.{accepted_in, EachFollows, ClockRule}
use Rattle.claims.specs.Resting.{busy_in_a_row, restless, NewestPolled, PolledAt, polls_to_rest}
use Rattle.claims.specs.Clauses.{Bounded}
use Rattle.ledger.proofs.Cases.{by_test}
use Rattle.claims.proofs.ClockTest.{without_newest}
use Rattle.claims.proofs.Lists.{all_map}
use Rattle.claims.proofs.Belonging.{requests_stay}

-- a refused call issues no ID
refused_asks_none : (a : Answer) → is_accepted a ≡ false → id_in a ≡ none
refused_asks_none (refused n) h = refl
refused_asks_none opened h = refl
refused_asks_none (submitted id) h = let z : ◌≡◌ {A = ℕ} 0 1 = cc in absurd (omega arith)
refused_asks_none (received r) h = refl
refused_asks_none (polled p) h = refl

-- what has ended stays so
ends_more : (e : Entry) (es : List Entry) (place : ℕ) → endings place es ≤ endings place (e ∷ es)
unfolding endings
ends_more e es place = omega arith

module _ (bound t : ℕ) where
  abbrev Ended : List Entry → Asked → Type 0
  Ended past a = a.time + bound ≤ t → endings a.place past ≡ 1

  -- a call more that issues no ID
  one_more : (e : Entry) (es : List Entry) → id_in e.answer ≡ none → ((place : ℕ) → endings place (e ∷ es) ≤ 1)
      → All (Ended es) (requests es) → All (Ended (e ∷ es)) (requests (e ∷ es))
  one_more e es asked once over =
      rw (requests_stay e es asked) (all_map (Ended es) (Ended (e ∷ es)) (λ a h late.
      let before = h late in
      let more = ends_more e es a.place in
      let most = once a.place in
      omega arith) (requests es) over)

  -- a poll more: it is quiet, and then this is the bound, or it did something, and then it was one of few
  module _ (e : Entry) (es : List Entry) (rule : ClockRule (e ∷ es)) (bounded : Bounded bound (e ∷ es))
      (once : (place : ℕ) → endings place (e ∷ es) ≤ 1) (read : reading_of e.call ≡ t) where
    rested : (time : Option ℕ) → e.answer ≡ polled (quiet time) → All (Ended (e ∷ es)) (requests (e ∷ es))
    rested time answered =
        subst (λ r. All (λ a. a.time + bound ≤ r → endings a.place (e ∷ es) ≡ 1) (requests (e ∷ es))) read
        ((bounded.0 rule).0 time answered)

    one_poll : (n : ℕ) (p : Poll) → e.answer ≡ polled p → busy_in_a_row t (e ∷ accepted_in es) < suc n
        → (restless t es < n → All (Ended es) (requests es)) → All (Ended (e ∷ es)) (requests (e ∷ es))
    unfolding busy_in_a_row
    one_poll n (sent k) answered few before =
        let fewer = rw (read, eq-eqb t t refl, answered) at few in one_more e es (rw answered) once (before (omega arith))
    one_poll n (ended x) answered few before =
        let fewer = rw (read, eq-eqb t t refl, answered) at few in one_more e es (rw answered) once (before (omega arith))
    one_poll n (quiet time) answered few before = rested time answered

  -- the newest accepted call is one of the polls
  newest : (e : Entry) (es : List Entry) (n : ℕ) → ClockRule (e ∷ es) → Bounded bound (e ∷ es)
      → ((place : ℕ) → endings place (e ∷ es) ≤ 1)
      → ((m : ℕ) → PolledAt t m es → restless t es < m → ClockRule es → All (Ended es) (requests es))
      → NewestPolled t n (e ∷ accepted_in es) → busy_in_a_row t (e ∷ accepted_in es) < n → EachFollows (e ∷ accepted_in es)
      → All (Ended (e ∷ es)) (requests (e ∷ es))
  newest e es zero rule bounded once before polls few follows = absurd (omega arith)
  newest e es (suc n) rule bounded once before polls few follows =
      one_poll e es rule bounded once polls.0.read n polls.0.answer polls.0.answered few
      (λ less. before n polls.1 less (without_newest e (accepted_in es) follows))

  ends_from : (past : List Entry) (n : ℕ) → PolledAt t n past → restless t past < n → ClockRule past → Bounded bound past
      → ((place : ℕ) → endings place past ≤ 1) → All (Ended past) (requests past)
  unfolding accepted_in requests
  ends_from [] n polls few rule bounded once = tt
  ends_from (e ∷ es) n polls few rule bounded once =
      let once-before : (place : ℕ) → endings place es ≤ 1 =
      λ place. (let more = ends_more e es place in let most = once place in omega arith) in
      by_test (λ x. NewestPolled t n (if x (e ∷ accepted_in es) (accepted_in es))
      → busy_in_a_row t (if x (e ∷ accepted_in es) (accepted_in es)) < n → EachFollows (if x (e ∷ accepted_in es) (accepted_in es))
      → All (Ended (e ∷ es)) (requests (e ∷ es)))
      (is_accepted e.answer)
      (λ accepted polls few follows.
      newest e es n rule bounded once (λ m p f r. ends_from es m p f r bounded.1 once-before) polls few follows)
      (λ unaccepted polls few follows. one_more e es (refused_asks_none e.answer unaccepted) once
      (ends_from es n polls few follows bounded.1 once-before))
      polls few rule

pub polled_ends : (limit bound : ℕ) (past : List Entry) → ClockRule past → Bounded bound past
    → ((reading : ℕ) → restless reading past ≤ limit) → ((place : ℕ) → endings place past ≤ 1)
    → (t : ℕ) → PolledAt t (polls_to_rest limit) past
    → All (λ a. a.time + bound ≤ t → endings a.place past ≡ 1) (requests past)
polled_ends limit bound past rule bounded rests once t polls =
    let few = rests t in ends_from bound t past (polls_to_rest limit) polls (omega arith) rule bounded once
