-- What a quiet poll's time says: *no deadline* only where nothing is live, and else from 1 to 3,000 ms.
use Prim.Native.Nat.{ℕ, suc, ◌+◌, ◌-◌, ◌≤◌}
use mathlib.Core.Bool.{Bool, false}
use mathlib.Core.List.{List, [], ◌∷◌, ◌++◌}
use mathlib.Core.Option.{Option, none, some, map}
use mathlib.Core.Path.{◌≡◌, refl, sym, ◌∙◌, subst}
use native.Mathlib.Omega.{arith}
use Rattle.link.specs.Frames.{Frame, deadline, due}
use Rattle.link.proofs.Laws.{not_due}
use Rattle.ledger.specs.Lists.{All}
use Rattle.ledger.specs.Parts.{State, queued, in_flight, waiting, Request, Ledger}
use Rattle.ledger.specs.Answers.{quiet, polled, Done}
use Rattle.ledger.specs.Receiving.{frame_in, flies}
use Rattle.ledger.specs.Polling.{response_time, overdue_in, queued_in, deadline_in, earliest}
use Rattle.ledger.specs.Calls.{Call, reading_of}
use Rattle.ledger.specs.Refusals.{flies_once, flights}
use Rattle.claims.specs.PlainTerms.{QuietTime}
use Rattle.claims.proofs.Lists.{all_append, all_left, all_right, all_both}
use Rattle.claims.proofs.Views.{quiet_in, Change, stays, joins, leaves, turns, rests_free, rests_busy, View, refuses, accepts}
use Rattle.claims.proofs.Fine.{Steady, Sound, Fine, flights_append}
use Rattle.claims.proofs.Along.{now_sound}
use Rattle.claims.proofs.Deadlines.{Until, some_number, no_deadline, least, not_before, current_wait}

-- none in flight beside one
alone : (t : ℕ) (qs : List Request) → flights qs ≡ 0 → All (λ q. flies q ≡ none) qs
unfolding flights
alone t [] h = tt
alone t (q ∷ qs) h = (still q.state (omega arith), alone t qs (omega arith))
  where
    still : (s : State) → flies_once s ≡ 0 → frame_in s ≡ none
    still queued k = refl
    still (in_flight f) k = absurd (omega arith)
    still (waiting since) k = refl

-- the deadline of a frame in flight
deadline_of : (s : State) {f : Frame} → s ≡ in_flight f → deadline_in s ≡ some (deadline f)
deadline_of s h = rw h

-- the deadline of one that is not overdue and not in flight is to come
waits_on : (t : ℕ) (q : Request) → overdue_in t q.state ≡ none → flies q ≡ none → Until (suc t) q
waits_on t q current down = go q.state current down
  where
    go : (s : State) → overdue_in t s ≡ none → frame_in s ≡ none → (d : ℕ) → deadline_in s ≡ some d → suc t ≤ d
    go queued c h d k = let z : ◌≡◌ {A = ℕ} 0 1 = cc in absurd (omega arith)
    go (in_flight f) c h d k = let z : ◌≡◌ {A = ℕ} 0 1 = cc in absurd (omega arith)
    go (waiting since) c h d k = let g : since + response_time ≡ d = cc in let less =
        current_wait 0 t (λ x. 0) since c in omega arith

-- the time, from the deadlines
by_deadlines : (t : ℕ) (live : List Request) → All (Until (suc t)) live → ((m : ℕ) → earliest live ≡ some m → m ≤ t + response_time)
    → (earliest live ≡ none → live ≡ []) → QuietTime live (map (◌- t) (earliest live))
by_deadlines t live soon near empty = go (earliest live) refl
  where
    go : (o : Option ℕ) → earliest live ≡ o → QuietTime live (map (◌- t) o)
    go none e = record { nobody_waits = λ k. empty e; bounded = λ ms k. (let z : ◌≡◌ {A = ℕ} 0 1 = cc in absurd (omega arith)) }
    go (some m) e = record {
      nobody_waits = λ k. (let z : ◌≡◌ {A = ℕ} 0 1 = cc in absurd (omega arith));
      bounded = λ ms k. (
          let same : m - t ≡ ms = cc in
          let above = not_before (suc t) live e soon in
          let below = near m e in
          (omega arith, omega arith));
    }

-- when one that waits ends at the latest, and since when it waits
record WaitsTill (t : ℕ) (s : State) : Type 0 where
  since : ℕ
  till : deadline_in s ≡ some (since + response_time)
  started : since ≤ t

waits_till : (t : ℕ) (w : Bool) (s : State) → Steady t w s → frame_in s ≡ none → queued_in s ≡ none → WaitsTill t s
waits_till t w queued k h i = let z : ◌≡◌ {A = ℕ} 0 1 = cc in absurd (omega arith)
waits_till t w (in_flight f) k h i = let z : ◌≡◌ {A = ℕ} 0 1 = cc in absurd (omega arith)
waits_till t w (waiting since) k h i = record { since = since; till = refl; started = k.1 }

module _ (r t : ℕ) where
  near_free : (live : List Request) → All (Sound r t) live → All (λ q. flies q ≡ none) live
      → All (λ q. queued_in q.state ≡ none) live
      → (m : ℕ) → earliest live ≡ some m → m ≤ t + response_time
  unfolding earliest
  near_free [] k h i m e = let z : ◌≡◌ {A = ℕ} 0 1 = cc in absurd (omega arith)
  near_free (q ∷ qs) k h i m e =
      let w = waits_till t q.wanted q.state k.0.steady h.0 i.0 in
      let first = (least (q ∷ qs) e).0 (w.since + response_time) w.till in
      let started = w.started in
      omega arith

  empty_free : (live : List Request) → All (Sound r t) live → All (λ q. flies q ≡ none) live
      → All (λ q. queued_in q.state ≡ none) live
      → earliest live ≡ none → live ≡ []
  empty_free [] k h i e = refl
  empty_free (q ∷ qs) k h i e =
      let w = waits_till t q.wanted q.state k.0.steady h.0 i.0 in
      let never = (no_deadline (suc (w.since + response_time)) (q ∷ qs) e).0 (w.since + response_time) w.till in
      absurd (omega arith)

  -- where all wait
  when_free : (live : List Request) → All (Sound r t) live → All (λ q. overdue_in t q.state ≡ none) live
      → All (λ q. flies q ≡ none) live
      → All (λ q. queued_in q.state ≡ none) live → QuietTime live (map (◌- t) (earliest live))
  when_free live sound current down idle =
      by_deadlines t live
      (all_both (λ q. overdue_in t q.state ≡ none) (λ q. flies q ≡ none) (Until (suc t)) (waits_on t) live current down)
      (near_free live sound down idle) (empty_free live sound down idle)

  -- where one is in flight
  when_busy : (b a : List Request) (q : Request) (f : Frame) → All (Sound r t) (b ++ (q ∷ a)) → flights (b ++ (q ∷ a)) ≤ 1
      → All (λ x. overdue_in t x.state ≡ none) (b ++ (q ∷ a)) → q.state ≡ in_flight f → due f t ≡ false
      → QuietTime (b ++ (q ∷ a)) (map (◌- t) (earliest (b ++ (q ∷ a))))
  unfolding flights
  when_busy b a q f sound one current flying calm =
      let all = b ++ (q ∷ a) in
      let count = flights_append b (q ∷ a) in
      let here : flies_once q.state ≡ 1 = rw flying in
      let left = all_left (λ x. overdue_in t x.state ≡ none) b (q ∷ a) current in
      let right = all_right (λ x. overdue_in t x.state ≡ none) b (q ∷ a) current in
      let late = (not_due f t calm).early in
      let mine : Until (suc t) q = λ d k. (let g : deadline f ≡ d =
      some_number (sym (deadline_of q.state flying) ∙ k) in omega arith) in
      let its = deadline_of q.state flying in
      let steady : Steady t q.wanted (in_flight f) = subst (Steady t q.wanted) flying
      (all_right (Sound r t) b (q ∷ a) sound).0.steady in
      by_deadlines t all
      (all_append (Until (suc t)) b (q ∷ a)
      (all_both (λ x. overdue_in t x.state ≡ none) (λ x. flies x ≡ none) (Until (suc t)) (waits_on t) b left
      (alone t b (omega arith))) (
        mine,
        all_both (λ x. overdue_in t x.state ≡ none) (λ x. flies x ≡ none) (Until (suc t)) (waits_on t) a right.1
            (alone t a (omega arith)),
      ))
      (λ m e. let first = (all_right (Until m) b (q ∷ a) (least all e)).0 (deadline f) its in omega arith)
      (λ e. let never = (all_right (Until (suc (deadline f))) b (q ∷ a) (no_deadline (suc (deadline f)) all e)).0
      (deadline f) its in absurd (omega arith))

-- a quiet poll
pub quiet_time : (limit : ℕ) (l : Ledger) (c : Call) (d : Done) (time : Option ℕ) → Fine limit l → View limit l c d
    → d.answer ≡ polled (quiet time) → QuietTime l.live time
quiet_time limit l c d time fine (refuses n number buffers same) answered = let z : ◌≡◌ {A = ℕ} 0 1 = cc in absurd (omega arith)
quiet_time limit l c d time fine (accepts go_on accepted keeps change) answered = go change
  where
    sound : All (Sound l.reserved (reading_of c)) l.live
    sound = now_sound l fine go_on

    noisy : quiet_in d.answer ≡ none → ⊥
    noisy other = let z : ◌≡◌ {A = ℕ} 0 1 = cc in omega arith

    named : quiet_in d.answer ≡ some (map (◌- reading_of c) (earliest l.live))
        → map (◌- reading_of c) (earliest l.live) ≡ time
    named rests = cc

    go : Change limit l (reading_of c) d → QuietTime l.live time
    go (stays shows same) = absurd (noisy shows.rests)
    go (joins q new named short room shows same) = absurd (noisy shows.rests)
    go (leaves b a q x among named shows same) = absurd (noisy shows.rests)
    go (turns b a q s frame among turn first shows same) = absurd (noisy shows.rests)
    go (rests_free current free idle shows same) =
        subst (QuietTime l.live) (named shows.rests) (when_free l.reserved (reading_of c) l.live sound current free idle)
    go (rests_busy current b a q f among flying calm shows same) =
        subst (QuietTime l.live) (named shows.rests)
        (rw among (when_busy l.reserved (reading_of c) b a q f (rw among at sound) (rw among at fine.fit.one)
        (rw among at current) flying calm))
