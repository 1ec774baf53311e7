-- No call makes a ledger malformed: what the malformed rule asks for, as facts, is kept by every step.
use Prim.Native.Nat.{ℕ, suc, ◌+◌, ◌≤◌, ◌<◌}
use mathlib.Core.Bool.{Bool, true, false, ◌||◌}
use mathlib.Core.List.{List, [], ◌∷◌, ◌++◌}
use mathlib.Core.Logic.{◌⊎◌, inl, inr}
use mathlib.Core.Option.{Option, none, some}
use mathlib.Core.Path.{◌≡◌, refl, sym, ◌∙◌, ap}
use native.Mathlib.Omega.{arith}
use lib.Dec.{eqb, ltb}
use lib.ListN.{length, length-append}
use borrow.Author.Tests.{eqb-false, ne_eqb, le-ltb, le-leb}
use Rattle.line.specs.Receiving.{held_max}
use Rattle.command.specs.Payload.{max_data}
use Rattle.link.specs.Frames.{Frame, max_transmissions}
use Rattle.link.proofs.Laws.{may_go_again_law}
use Rattle.ledger.specs.Lists.{All}
use Rattle.ledger.specs.Parts.{reserved_max, State, queued, in_flight, waiting, Request, Ledger, with_state, fresh}
use Rattle.ledger.specs.Answers.{Done}
use Rattle.ledger.specs.Submitting.{last_id, is_live, id_after, issued}
use Rattle.ledger.specs.Receiving.{flies}
use Rattle.ledger.specs.Calls.{Call}
use Rattle.ledger.specs.Refusals.{some_of, is_outside, two_equal, flies_once, flights, wrongly_often, waits_for_nothing, is_late, malformed}
use Rattle.claims.specs.Trace.{id_in}
use Rattle.ledger.proofs.Cases.{by_test}
use Rattle.claims.specs.Clauses.{Enough}
use Rattle.claims.proofs.Lists.{all_map, all_append, all_left, all_right}
use Rattle.ledger.proofs.FreeId.{Unreserved, after_unreserved, first_free_law, free_unreserved}
use Rattle.claims.proofs.Views.{Turn, acknowledges, marks, starts, sends_again, Change, stays, joins, leaves, turns, rests_free, rests_busy, View, refuses, accepts}

-- the state of a request, at a reading
abbrev pub Steady : (t : ℕ) (wanted : Bool) → State → Type 0
Steady t wanted queued = Unit
Steady t wanted (in_flight f) = (1 ≤ f.transmissions) × (f.transmissions ≤ max_transmissions) × (f.sent ≤ t)
Steady t wanted (waiting since) = (wanted ≡ true) × (since ≤ t)

pub record Sound (r t : ℕ) (q : Request) : Type 0 where
  pub unreserved : Unreserved r q.id
  pub short : length q.bytes ≤ max_data
  pub steady : Steady t q.wanted q.state

-- no two have the same ID
abbrev pub Distinct : List Request → Type 0
Distinct [] = Unit
Distinct (q ∷ qs) = (is_live q.id qs ≡ false) × Distinct qs

-- the live requests
pub record Fit (limit r t : ℕ) (live : List Request) : Type 0 where
  pub few : length live ≤ limit
  pub each : All (Sound r t) live
  pub distinct : Distinct live
  pub one : flights live ≤ 1

pub record Fine (limit : ℕ) (l : Ledger) : Type 0 where
  pub small : l.reserved ≤ reserved_max
  pub next : Unreserved l.reserved l.next_id
  pub fit : Fit limit l.reserved l.clock l.live
  pub held : length l.held ≤ held_max

pub fresh_fine : (limit r : ℕ) → r ≤ reserved_max → Fine limit (fresh r)
unfolding flights
fresh_fine limit r small = record {
  small = small;
  next = record { above = omega arith; within = omega arith };
  fit = record { few = omega arith; each = tt; distinct = tt; one = omega arith };
  held = omega arith;
}

-- lists put together
pub flights_append : (xs ys : List Request) → flights (xs ++ ys) ≡ flights xs + flights ys
unfolding flights
flights_append [] ys = omega arith
flights_append (x ∷ xs) ys = let rest = flights_append xs ys in omega arith

pub live_append : (id : ℕ) (xs ys : List Request) → is_live id (xs ++ ys) ≡ (is_live id xs || is_live id ys)
unfolding is_live
live_append id [] ys = refl
live_append id (x ∷ xs) ys =
    let rest = live_append id xs ys in
    by_test (λ b. (b || is_live id (xs ++ ys)) ≡ ((b || is_live id xs) || is_live id ys)) (eqb x.id id) (λ e. refl) (λ e. rest)

pub neither : (a b : Bool) → a || b ≡ false → (a ≡ false) × (b ≡ false)
neither true b h = let z : ◌≡◌ {A = ℕ} 0 1 = cc in absurd (omega arith)
neither false b h = (refl, h)

-- one that is not among all is not among some, nor behind one that left
less_live : (id : ℕ) (b a : List Request) (q : Request) → is_live id (b ++ (q ∷ a)) ≡ false → is_live id (b ++ a) ≡ false
unfolding is_live
less_live id b a q h =
    let parts = neither (is_live id b) (is_live id (q ∷ a)) (sym (live_append id b (q ∷ a)) ∙ h) in
    live_append id b a ∙ rw (parts.0, (neither (eqb q.id id) (is_live id a) parts.1).1)

same_live : (id : ℕ) (s : State) (b a : List Request) (q : Request)
    → is_live id (b ++ (with_state s q ∷ a)) ≡ is_live id (b ++ (q ∷ a))
unfolding is_live
same_live id s [] a q = refl
same_live id s (x ∷ b) a q = ap (eqb x.id id ||◌) (same_live id s b a q)

pub distinct_less : (b a : List Request) (q : Request) → Distinct (b ++ (q ∷ a)) → Distinct (b ++ a)
distinct_less [] a q h = h.1
distinct_less (x ∷ b) a q h = (less_live x.id b a q h.0, distinct_less b a q h.1)

distinct_same : (s : State) (b a : List Request) (q : Request) → Distinct (b ++ (q ∷ a)) → Distinct (b ++ (with_state s q ∷ a))
distinct_same s [] a q h = h
distinct_same s (x ∷ b) a q h = (same_live x.id s b a q ∙ h.0, distinct_same s b a q h.1)

distinct_more : (live : List Request) (q : Request) → is_live q.id live ≡ false → Distinct live → Distinct (live ++ (q ∷ []))
unfolding is_live
distinct_more [] q new h = (refl, tt)
distinct_more (x ∷ live) q new h =
    let parts = neither (eqb x.id q.id) (is_live q.id live) new in
    let apart = eqb-false x.id q.id parts.0 in (
      live_append x.id live (q ∷ []) ∙ rw (h.0, ne_eqb q.id x.id (λ e. apart (sym e))),
      distinct_more live q parts.1
          h.1,
    )

-- time goes on
pub later : {r t t' : ℕ} → t ≤ t' → (q : Request) → Sound r t q → Sound r t' q
later {r} {t} {t'} go_on q h =
    record { unreserved = h.unreserved; short = h.short; steady = steady_later q.wanted q.state h.steady }
  where
    steady_later : (w : Bool) (s : State) → Steady t w s → Steady t' w s
    steady_later w queued k = tt
    steady_later w (in_flight f) k = (k.0, k.1, omega arith)
    steady_later w (waiting since) k = (k.0, omega arith)

-- none in flight
none_flying : (live : List Request) → All (λ q. flies q ≡ none) live → flights live ≡ 0
unfolding flights
none_flying [] h = refl
none_flying (q ∷ live) h = let rest = none_flying live h.1 in let here = calm q.state h.0 in omega arith
  where
    calm : (s : State) → ◌≡◌ {A = Option Frame} (Rattle.ledger.specs.Receiving.frame_in s) none → flies_once s ≡ 0
    calm queued k = refl
    calm (in_flight f) k = let z : ◌≡◌ {A = ℕ} 0 1 = cc in absurd (omega arith)
    calm (waiting since) k = refl

-- how a turn changes one request
pub record Turned (t : ℕ) (q : Request) (from to : State) : Type 0 where
  pub steady : Steady t q.wanted to
  pub lighter : (flies_once to ≤ flies_once from) ⊎ ((from ≡ queued) × (flies_once to ≡ 1))

pub turned : (l : Ledger) (t : ℕ) (q : Request) {from to : State} {frame : Option (List ℕ)} → Turn l t q from to frame
    → Steady t q.wanted from
    → Turned t q from to
turned l t q (acknowledges wanted) h = record { steady = (wanted, omega arith); lighter = inl (omega arith) }
turned l t q marks h = record { steady = h; lighter = inl (omega arith) }
turned l t q starts h = record { steady = (omega arith, omega arith, omega arith); lighter = inr (refl, refl) }
turned l t q (sends_again {f} late may) h =
    let again = may_go_again_law f may in record { steady = (omega arith, omega arith, omega arith); lighter = inl (omega arith) }

module _ {limit r t : ℕ} where
  fit_less : (b a : List Request) (q : Request) → Fit limit r t (b ++ (q ∷ a)) → Fit limit r t (b ++ a)
  unfolding flights
  fit_less b a q h =
      let shorter = length-append b (q ∷ a) in
      let short = length-append b a in
      let before = flights_append b (q ∷ a) in
      let after = flights_append b a in
      let few = h.few in
      let one = h.one in
      record {
        few = omega arith;
        each = all_append (Sound r t) b a (all_left (Sound r t) b (q ∷ a) h.each) (all_right (Sound r t) b (q ∷ a) h.each).1;
        distinct = distinct_less b a q h.distinct;
        one = omega arith;
      }

  fit_turn : (l : Ledger) (b a : List Request) (q : Request) {s : State} {frame : Option (List ℕ)} → Turn l t q q.state s frame
      → (q.state ≡ queued → flights (b ++ (q ∷ a)) ≡ 0) → Fit limit r t (b ++ (q ∷ a)) → Fit limit r t (b ++ (with_state s q ∷ a))
  unfolding flights
  fit_turn l b a q {s} turn free h =
      let here = all_right (Sound r t) b (q ∷ a) h.each in
      let was = here.0 in
      let now = turned l t q turn was.steady in
      let shorter = length-append b (q ∷ a) in
      let short = length-append b (with_state s q ∷ a) in
      let few = h.few in
      let sound : Sound r t (with_state s q) = record { unreserved = was.unreserved; short = was.short; steady = now.steady } in
      record {
        few = omega arith;
        each = all_append (Sound r t) b (with_state s q ∷ a) (all_left (Sound r t) b (q ∷ a) h.each) (sound, here.1);
        distinct = distinct_same s b a q h.distinct;
        one = count now.lighter h.one (flights_append b (q ∷ a)) (flights_append b (with_state s q ∷ a));
      }
    where
      count : (flies_once s ≤ flies_once q.state) ⊎ ((q.state ≡ queued) × (flies_once s ≡ 1)) → flights (b ++ (q ∷ a)) ≤ 1
          → flights (b ++ (q ∷ a)) ≡ flights b + (flies_once q.state + flights a)
          → flights (b ++ (with_state s q ∷ a)) ≡ flights b + (flies_once s + flights a) → flights (b ++ (with_state s q ∷ a)) ≤ 1
      count (inl lighter) one before after = omega arith
      count (inr (first, once)) one before after = let none = free first in omega arith

  fit_more : (live : List Request) (q : Request) → q.state ≡ queued → Unreserved r q.id → length q.bytes ≤ max_data
      → is_live q.id live ≡ false → (length live ≡ limit → ⊥) → Fit limit r t live → Fit limit r t (live ++ (q ∷ []))
  unfolding flights
  fit_more live q new unreserved short free room h =
      let longer = length-append live (q ∷ []) in
      let more = flights_append live (q ∷ []) in
      let few = h.few in
      let one = h.one in
      let light : flies_once q.state ≡ 0 = rw new in
      let steady : Steady t q.wanted q.state = rw new tt in
      record {
        few = omega (arith, room);
        each = all_append (Sound r t) live (q ∷ []) h.each
            (record { unreserved = unreserved; short = short; steady = steady }, tt);
        distinct = distinct_more live q free h.distinct;
        one = omega arith;
      }

pub issued_free : (limit : ℕ) → Enough limit → (l : Ledger) → Fine limit l → (length l.live ≡ limit → ⊥)
    → is_live (issued l) l.live ≡ false
issued_free limit enough l h room =
    let small = h.small in
    let few = h.fit.few in
    first_free_law l.reserved (omega arith) (length l.live) l.live (omega arith) (omega (arith, room)) h.next

module _ (limit : ℕ) (l : Ledger) (h : Fine limit l) where
  -- where a call issues an ID, there is room, and then the ID is not live
  abbrev IssuesFree : Done → Type 0
  IssuesFree d = (id : ℕ) → id_in d.answer ≡ some id → (length l.live ≡ limit → ⊥) → is_live (issued l) l.live ≡ false

  fit_change : {t : ℕ} {d : Done} → l.clock ≤ t → IssuesFree d → Change limit l t d → Fit limit l.reserved t d.next.live
  fit_change {t} {d} go_on free change = go change
    where
      now : Fit limit l.reserved t l.live
      now =
          let fit = h.fit in
          record {
            few = fit.few;
            each = all_map (Sound l.reserved l.clock) (Sound l.reserved t) (later go_on) l.live
                fit.each;
            distinct = fit.distinct;
            one = fit.one;
          }

      small : l.reserved < last_id
      small = let small = h.small in omega arith

      go : Change limit l t d → Fit limit l.reserved t d.next.live
      go (stays shows e) = rw e now
      go (rests_free current free idle shows e) = rw e now
      go (rests_busy current b a q f among flying calm shows e) = rw e now
      go (leaves b a q x among named shows e) = rw e (fit_less b a q (rw among at now))
      go (turns b a q s frame among turn first shows e) =
          rw e (fit_turn l b a q turn (λ new. ap flights (sym among) ∙ none_flying l.live (first new).0) (rw among at now))
      go (joins q new named short room shows e) =
          rw e (fit_more l.live q new (rw named (free_unreserved l.reserved small (length l.live) l.live h.next))
          short
          (rw named (free q.id shows.asks room)) room now)

  fine_kept : (c : Call) {d : Done} → IssuesFree d → View limit l c d → Fine limit d.next
  fine_kept c free (refuses n refused buffers same) = rw same h
  fine_kept c {d} free (accepts go_on accepted keeps change) =
      let fit = fit_change go_on free change in
      let small = h.small in
      let below : l.reserved < last_id = omega arith in
      record {
        small = rw keeps.reserved small;
        next = rw keeps.reserved (ids below keeps.ids);
        fit = rw (keeps.reserved, keeps.clock) fit;
        held = keeps.held h.held;
      }
    where
      ids : l.reserved < last_id → (d.next.next_id ≡ l.next_id) ⊎ (d.next.next_id ≡ id_after l.reserved (issued l))
          → Unreserved l.reserved d.next.next_id
      ids below (inl e) = rw e h.next
      ids below (inr e) =
          rw e (after_unreserved l.reserved below (free_unreserved l.reserved below (length l.live) l.live h.next))

pub fine_step : (limit : ℕ) → Enough limit → (l : Ledger) (c : Call) {d : Done} → Fine limit l → View limit l c d → Fine limit d.next
fine_step limit enough l c h v = fine_kept limit l h c (λ id asked room. issued_free limit enough l h room) v

-- a call that issues no ID, whatever the limit
pub fine_calm : (limit : ℕ) (l : Ledger) (c : Call) {d : Done} → id_in d.answer ≡ none → Fine limit l → View limit l c d
    → Fine limit d.next
fine_calm limit l c unasked h v =
    fine_kept limit l h c (λ id asked room. (let z : ◌≡◌ {A = ℕ} 0 1 = cc in absurd (omega arith))) v

-- none of the malformed rule's clauses holds
none_of : (test : Request → Bool) (P : Request → Type 0) → ((q : Request) → P q → test q ≡ false) → (live : List Request)
    → All P live
    → some_of test live ≡ false
unfolding some_of
none_of test P f [] h = refl
none_of test P f (q ∷ live) h = rw (f q h.0) (none_of test P f live h.1)

inside : {r id : ℕ} → Unreserved r id → is_outside r id ≡ false
inside {r} {id} h = rw (le-leb (suc r) id h.above, le-leb id last_id h.within)

none_equal : (live : List Request) → Distinct live → two_equal live ≡ false
unfolding two_equal
none_equal [] h = refl
none_equal (q ∷ live) h = rw h.0 (none_equal live h.1)

rightly_often : (t : ℕ) (w : Bool) (s : State) → Steady t w s → wrongly_often s ≡ false
rightly_often t w queued h = refl
rightly_often t w (in_flight f) h = rw (le-leb 1 f.transmissions h.0, le-leb f.transmissions max_transmissions h.1)
rightly_often t w (waiting since) h = refl

waits_for_one : (t : ℕ) (w : Bool) (s : State) → Steady t w s → waits_for_nothing w s ≡ false
waits_for_one t w queued h = refl
waits_for_one t w (in_flight f) h = refl
waits_for_one t w (waiting since) h = rw h.0

in_time_law : (t : ℕ) (w : Bool) (s : State) → Steady t w s → is_late t s ≡ false
in_time_law t w queued h = refl
in_time_law t w (in_flight f) h = le-ltb t f.sent h.2
in_time_law t w (waiting since) h = le-ltb t since h.1

pub not_malformed : (limit : ℕ) (l : Ledger) → Fine limit l → malformed limit l ≡ false
unfolding malformed
not_malformed limit l h =
    let each = h.fit.each in
    let P = Sound l.reserved l.clock in
    rw (
      le-ltb reserved_max l.reserved h.small,
      le-ltb limit (length l.live) h.fit.few,
      none_of (λ q. is_outside l.reserved q.id) P (λ q k. inside k.unreserved) l.live each,
      inside h.next,
      none_equal l.live h.fit.distinct,
      le-ltb 1 (flights l.live) h.fit.one,
      none_of (λ q. wrongly_often q.state) P (λ q k. rightly_often l.clock q.wanted q.state k.steady) l.live each,
      none_of (λ q. ltb max_data (length q.bytes)) P (λ q k. le-ltb max_data (length q.bytes) k.short) l.live each,
      none_of (λ q. waits_for_nothing q.wanted q.state) P (λ q k. waits_for_one l.clock q.wanted q.state k.steady)
          l.live each,
      none_of (λ q. is_late l.clock q.state) P (λ q k. in_time_law l.clock q.wanted q.state k.steady) l.live each,
      le-ltb held_max (length l.held) h.held,
    )
