-- The bound: along every list of calls that keeps the clock rule, each live request is timely at every reading that may come next.
use Prim.Native.Nat.{ℕ, ◌+◌, ◌*◌, ◌-◌, ◌≤◌, ◌<◌}
use mathlib.Core.Bool.{true, false, not, ◌||◌, cond as if}
use mathlib.Core.List.{List, [], ◌∷◌, ◌++◌}
use mathlib.Core.Option.{Option, none, some, map}
use mathlib.Core.Path.{◌≡◌, refl, sym, ap, subst}
use native.Mathlib.Omega.{arith}
use lib.Dec.{ltb}
use lib.ListN.{length}
use borrow.Author.Tests.{ltb-false, leb-true}
use Rattle.message.proofs.Headers.{both}
use Rattle.link.specs.Frames.{max_transmissions}
use Rattle.ledger.specs.Lists.{All}
use Rattle.ledger.specs.Parts.{reserved_max, Request, Ledger, with_state}
use Rattle.ledger.specs.Answers.{sent, ended, quiet, Answer, refused, opened, submitted, received, polled, Done}
use Rattle.ledger.specs.Polling.{earliest}
use Rattle.ledger.specs.Calls.{Call, reading_of}
use Rattle.ledger.specs.Refusals.{first_of}
use Rattle.ledger.specs.Runs.{opened_by, step, Entry, Run, start, then, run}
use Rattle.claims.specs.Trace.{Asked, is_accepted, id_in, last_asked, endings, live_after, requests}
use Rattle.claims.specs.Clauses.{◌∈◌, here, there, Fate, still_live, has_ended, longest, Bounded, Enough}
use Rattle.ledger.proofs.Cases.{by_test}
use Rattle.claims.proofs.ClockTest.{leave_of, may_be_later, may_follow, keeps_clock_rule, rule_test}
use Rattle.claims.proofs.Lists.{all_of, all_map, all_right}
use Rattle.claims.proofs.Views.{quiet_in, Change, stays, joins, leaves, turns, rests_free, rests_busy, View, refuses, accepts, view}
use Rattle.claims.proofs.Fine.{Sound, Fine, issued_free}
use Rattle.claims.proofs.Belonging.{asks_none, asks_other, asks_it}
use Rattle.claims.proofs.Owners.{Own, Owners, not_live}
use Rattle.claims.proofs.Along.{Good, entry_of, now_sound, good_step, start_good}
use Rattle.claims.proofs.Deadlines.{Ok, free_after, Line, Timely, timely_turn, timely_join, timely_less, Until, no_deadline, until_sooner, least, not_before, line_until, timely_busy, timely_free, line_in_time, early_busy, early_free}

-- the reading at which a live request was accepted
abbrev pub time_of : Option Asked → ℕ
time_of none = 0
time_of (some a) = a.time

abbrev pub accepted_at : List Entry → Request → ℕ
accepted_at h q = time_of (last_asked q.id h)

line_same : (limit t base free : ℕ) (accepted accepted' : Request → ℕ) (qs : List Request) → All (λ q. accepted' q ≡ accepted q) qs
    → Line limit t base free accepted qs → Line limit t base free accepted' qs
line_same limit t base free accepted accepted' [] same h = tt
line_same limit t base free accepted accepted' (q ∷ qs) same h = (
  subst (λ a. Ok limit t base free a q.state) (sym same.0) h.0,
  line_same limit t base (free_after free q.state) accepted accepted' qs same.1 h.1,
)

timely_same : (limit t : ℕ) (accepted accepted' : Request → ℕ) (qs : List Request) → All (λ q. accepted' q ≡ accepted q) qs
    → Timely limit t accepted qs → Timely limit t accepted' qs
timely_same limit t accepted accepted' qs same h =
    record { base = h.base; later = h.later; line = line_same limit t h.base h.base accepted accepted' qs same h.line }

every : (P : Request → Type 0) → ((q : Request) → P q) → (qs : List Request) → All P qs
every P f [] = tt
every P f (q ∷ qs) = (f q, every P f qs)

-- a call that is no submit leaves the readings
module _ (e : Entry) (h : List Entry) (limit t : ℕ) where
  unasked : (qs : List Request) → id_in e.answer ≡ none → Timely limit t (accepted_at h) qs
      → Timely limit t (accepted_at (e ∷ h)) qs
  unasked qs asked timely =
      timely_same limit t (accepted_at h) (accepted_at (e ∷ h)) qs
      (every (λ q. accepted_at (e ∷ h) q ≡ accepted_at h q) (λ q. ap time_of (asks_none e h q.id asked)) qs) timely

module _ (limit : ℕ) (enough : Enough limit) where
  changed : (l : Ledger) (c : Call) (h : List Entry) (d : Done) → Fine limit l → l.clock ≤ reading_of c
      → Change limit l (reading_of c) d
      → Timely limit (reading_of c) (accepted_at h) l.live
      → Timely limit (reading_of c) (accepted_at (entry_of c d ∷ h)) d.next.live
  changed l c h d fine go_on (stays shows same) timely = rw same
      (unasked (entry_of c d) h limit (reading_of c) l.live shows.asks timely)
  changed l c h d fine go_on (rests_free current free idle shows same) timely =
      rw same (unasked (entry_of c d) h limit (reading_of c) l.live shows.asks timely)
  changed l c h d fine go_on (rests_busy current b a q f among flying calm shows same) timely =
      rw same (unasked (entry_of c d) h limit (reading_of c) l.live shows.asks timely)
  changed l c h d fine go_on (leaves b a q x among named shows same) timely =
      rw same (unasked (entry_of c d) h limit (reading_of c) (b ++ a) shows.asks
      (timely_less limit (reading_of c) (accepted_at h) b a q (rw among at timely)))
  changed l c h d fine go_on (turns b a q s frame among turn first shows same) timely =
      rw same (unasked (entry_of c d) h limit (reading_of c) (b ++ (with_state s q ∷ a)) shows.asks
      (timely_turn limit (reading_of c) (accepted_at h) l b a q turn (λ new. (rw among at (first new).0, (first new).1)) (λ s. refl)
      (rw among at timely)))
  changed l c h d fine go_on (joins q new named short room shows same) timely =
      let e = entry_of c d in
      let accepted = accepted_at (e ∷ h) in
      let free = not_live q.id l.live (rw named (issued_free limit enough l fine room)) in
      let few = fine.fit.few in
      let fewer : length l.live < limit = omega (arith, room) in
      let at-now : accepted q ≡ reading_of c = ap time_of (asks_it e h shows.asks) in
      rw same (timely_join limit (reading_of c) accepted l.reserved l.live q new at-now (now_sound l fine go_on)
      fine.fit.one fewer
      (timely_same limit (reading_of c) (accepted_at h) accepted l.live
      (all_map (λ x. x.id ≡ q.id → ⊥) (λ x. accepted x ≡ accepted_at h x)
      (λ x apart. ap time_of (asks_other e h x.id shows.asks (λ k. apart (sym k)))) l.live free) timely))

-- how far the next reading may be, by an answer
not_quiet : (a : Answer) (t t' : ℕ) → quiet_in a ≡ none → may_be_later a t t' ≡ false
not_quiet (refused n) t t' h = refl
not_quiet opened t t' h = refl
not_quiet (submitted id) t t' h = refl
not_quiet (received r) t t' h = refl
not_quiet (polled (sent n)) t t' h = refl
not_quiet (polled (ended x)) t t' h = refl
not_quiet (polled (quiet time)) t t' h = let z : ◌≡◌ {A = ℕ} 0 1 = cc in absurd (omega arith)

is_quiet_law : (a : Answer) (time : Option ℕ) → quiet_in a ≡ some time → a ≡ polled (quiet time)
is_quiet_law (refused n) time h = let z : ◌≡◌ {A = ℕ} 0 1 = cc in absurd (omega arith)
is_quiet_law opened time h = let z : ◌≡◌ {A = ℕ} 0 1 = cc in absurd (omega arith)
is_quiet_law (submitted id) time h = let z : ◌≡◌ {A = ℕ} 0 1 = cc in absurd (omega arith)
is_quiet_law (received r) time h = let z : ◌≡◌ {A = ℕ} 0 1 = cc in absurd (omega arith)
is_quiet_law (polled (sent n)) time h = let z : ◌≡◌ {A = ℕ} 0 1 = cc in absurd (omega arith)
is_quiet_law (polled (ended x)) time h = let z : ◌≡◌ {A = ℕ} 0 1 = cc in absurd (omega arith)
is_quiet_law (polled (quiet o)) time h = cc

module _ (e : Entry) (h : List Entry) (t : ℕ) (accepted : is_accepted e.answer ≡ true) where
  -- no later after any other answer
  stands_still : quiet_in e.answer ≡ none → may_follow (e ∷ h) t ≡ true → t ≤ reading_of e.call
  unfolding may_follow
  stands_still other may =
      by_test (λ b. ltb (reading_of e.call) t ≡ b → if b (may_be_later e.answer (reading_of e.call) t) true ≡ true
      → t ≤ reading_of e.call)
      (ltb (reading_of e.call) t)
      (λ b k m.
      let never = not_quiet e.answer (reading_of e.call) t other in
      let z : ◌≡◌ {A = ℕ} 0 1 = cc in absurd (omega arith))
      (λ b k m. ltb-false (reading_of e.call) t k)
      refl (rw accepted at may)

  -- up to the earliest deadline after a quiet poll
  up_to : (live : List Request) → quiet_in e.answer ≡ some (map (◌- reading_of e.call) (earliest live))
      → All (Until (reading_of e.call)) live → may_follow (e ∷ h) t ≡ true → All (Until t) live
  unfolding may_follow
  up_to live rests until may =
      by_test (λ b. ltb (reading_of e.call) t ≡ b → if b (may_be_later e.answer (reading_of e.call) t) true ≡ true
      → All (Until t) live)
      (ltb (reading_of e.call) t)
      (λ b k m. by_earliest (earliest live) refl (rw (is_quiet_law e.answer _ rests) at m))
      (λ b k m. all_map (Until (reading_of e.call)) (Until t) (until_sooner (ltb-false (reading_of e.call) t k)) live until)
      refl (rw accepted at may)
    where
      by_earliest : (o : Option ℕ) → earliest live ≡ o
          → leave_of (quiet (map (◌- reading_of e.call) o)) (reading_of e.call) t ≡ true → All (Until t) live
      by_earliest none k m = no_deadline t live k
      by_earliest (some first) k m =
          let least-one = not_before (reading_of e.call) live k until in
          let at_most = leb-true t (reading_of e.call + (first - reading_of e.call)) m in
          all_map (Until first) (Until t) (until_sooner (omega arith)) live (least live k)

-- at every reading that may come next
pub record Timed (limit : ℕ) (s : Run) : Type 0 where
  pub ready : (t : ℕ) → s.ledger.clock ≤ t → may_follow s.past t ≡ true
      → Timely limit t (accepted_at s.past) s.ledger.live

pub kept_before : (e : Entry) (h : List Entry) → keeps_clock_rule (e ∷ h) ≡ true → keeps_clock_rule h ≡ true
unfolding keeps_clock_rule
kept_before e h kept = (both (not (is_accepted e.answer) || may_follow h (reading_of e.call)) (keeps_clock_rule h) kept).1

pub kept_now : (e : Entry) (h : List Entry) → is_accepted e.answer ≡ true → keeps_clock_rule (e ∷ h) ≡ true
    → may_follow h (reading_of e.call) ≡ true
unfolding keeps_clock_rule
kept_now e h accepted kept =
    rw accepted at (both (not (is_accepted e.answer) || may_follow h (reading_of e.call)) (keeps_clock_rule h) kept).0

module _ (limit : ℕ) (enough : Enough limit) where
  timed_after : (l : Ledger) (c : Call) (h : List Entry) (d : Done) → Fine limit l → View limit l c d
      → keeps_clock_rule (entry_of c d ∷ h) ≡ true
      → ((t : ℕ) → l.clock ≤ t → may_follow h t ≡ true → Timely limit t (accepted_at h) l.live)
      → (t : ℕ) → d.next.clock ≤ t → may_follow (entry_of c d ∷ h) t ≡ true
      → Timely limit t (accepted_at (entry_of c d ∷ h)) d.next.live
  unfolding may_follow
  timed_after l c h d fine (refuses n number buffers same) kept ready t on may =
      let before = ready t (rw same at on) (rw number at may) in
      rw same (unasked (entry_of c d) h limit t l.live (rw number) before)
  timed_after l c h d fine (accepts go_on accepted keeps change) kept ready t on may = go change
    where
      e : Entry
      e = entry_of c d

      before : Timely limit (reading_of c) (accepted_at h) l.live
      before = ready (reading_of c) go_on (kept_now (entry_of c d) h accepted kept)

      after : Timely limit (reading_of c) (accepted_at (entry_of c d ∷ h)) d.next.live
      after = changed limit enough l c h d fine go_on change before

      not_before_now : reading_of c ≤ t
      not_before_now = let clock = keeps.clock in omega arith

      still : quiet_in d.answer ≡ none → Timely limit t (accepted_at (entry_of c d ∷ h)) d.next.live
      still other =
          let no-later = stands_still (entry_of c d) h t accepted other may in
          let same : reading_of c ≡ t = omega (arith, not_before_now) in
          subst (λ x. Timely limit x (accepted_at (entry_of c d ∷ h)) d.next.live) same after

      until : quiet_in d.answer ≡ some (map (◌- reading_of c) (earliest l.live)) → d.next.live ≡ l.live
          → All (Until t) l.live
      until rests same =
          up_to (entry_of c d) h t accepted l.live rests
          (line_until limit (reading_of c) (accepted_at h) before.base before.base l.live before.line) may

      go : Change limit l (reading_of c) d → Timely limit t (accepted_at (entry_of c d ∷ h)) d.next.live
      go (stays shows same) = still shows.rests
      go (joins q new named short room shows same) = still shows.rests
      go (leaves b a q x among named shows same) = still shows.rests
      go (turns b a q s frame among turn first shows same) = still shows.rests
      go (rests_free current free idle shows same) =
          rw same (timely_free limit (reading_of c) (accepted_at (entry_of c d ∷ h)) t l.live free idle (until shows.rests same)
          (rw same at after))
      go (rests_busy current b a q f among flying calm shows same) =
          let steady = (all_right (Sound l.reserved (reading_of c)) b (q ∷ a) (rw among at (now_sound l fine go_on))).0.steady in
          let few : f.transmissions ≤ max_transmissions = (rw flying at steady).1 in
          rw (same, among) (timely_busy limit (reading_of c) (accepted_at (entry_of c d ∷ h)) t b a q flying few
          (rw among at (until shows.rests same)) (rw (same, among) at after))

  timed_step : (s : Run) (c : Call) → Good limit s → keeps_clock_rule (then limit s c).past ≡ true → Timed limit s
      → Timed limit (then limit s c)
  timed_step s c good kept timed =
      record {
        ready = timed_after s.ledger c s.past (step limit s.ledger c) good.fine (view limit s.ledger c) kept
            timed.ready;
      }

-- nothing is live at the start
pub start_timed : (limit given : ℕ) → Timed limit (start given)
unfolding first_of
start_timed limit given =
    by_test (λ b. Timed limit (record { past = []; ledger = (opened_by given (if b (some 3) none)).next })) (ltb reserved_max given)
    (λ e. record { ready = λ t on may. record { base = t; later = omega arith; line = tt } })
    (λ e. record { ready = λ t on may. record { base = t; later = omega arith; line = tt } })

-- the request of the ledger that a live request of the list is
owned : (h : List Entry) (live : List Asked) (qs : List Request) (a : Asked) → a ∈ live → Owners h live qs
    → (q : Request) × Own h a q × q ∈ qs
owned h [] qs a among own = elim among [ ]
owned h (x ∷ live) (q ∷ qs) a here own = (q, own.0, here)
owned h (x ∷ live) [] a here own = absurd own
owned h (x ∷ live) (q ∷ qs) a (there among) own = let rest = owned h live qs a among own.1 in (rest.0, rest.1, there rest.2)
owned h (x ∷ live) [] a (there among) own = absurd own

module _ (limit : ℕ) (enough : Enough limit) where
  -- what a quiet poll leaves live was accepted not long ago
  quiet_early : (l : Ledger) (c : Call) (h : List Entry) (d : Done) (time : Option ℕ) → Fine limit l → View limit l c d
      → (is_accepted d.answer ≡ true → Timely limit (reading_of c) (accepted_at h) l.live) → d.answer ≡ polled (quiet time)
      → All (λ q. reading_of c < accepted_at (entry_of c d ∷ h) q + 3000 * limit + 3000) d.next.live
  quiet_early l c h d time fine (refuses n number buffers same) timely answered =
      let z : ◌≡◌ {A = ℕ} 0 1 = cc in absurd (omega arith)
  quiet_early l c h d time fine (accepts go_on accepted keeps change) timely answered = go change
    where
      t : ℕ
      t = reading_of c

      noisy : quiet_in d.answer ≡ none → ⊥
      noisy other = let z : ◌≡◌ {A = ℕ} 0 1 = cc in omega arith

      told : id_in d.answer ≡ none
      told = rw answered

      moved : All (λ q. reading_of c < accepted_at h q + 3000 * limit + 3000) l.live
          → All (λ q. reading_of c < accepted_at (entry_of c d ∷ h) q + 3000 * limit + 3000) l.live
      moved = all_map (λ q. reading_of c < accepted_at h q + 3000 * limit + 3000)
          (λ q. reading_of c < accepted_at (entry_of c d ∷ h) q + 3000 * limit + 3000)
          (λ q k. rw (asks_none (entry_of c d) h q.id told) k) l.live

      go : Change limit l (reading_of c) d
          → All (λ q. reading_of c < accepted_at (entry_of c d ∷ h) q + 3000 * limit + 3000) d.next.live
      go (stays shows same) = absurd (noisy shows.rests)
      go (joins q new named short room shows same) = absurd (noisy shows.rests)
      go (leaves b a q x among named shows same) = absurd (noisy shows.rests)
      go (turns b a q s frame among turn first shows same) = absurd (noisy shows.rests)
      go (rests_free current free idle shows same) =
          rw same (moved (early_free limit (reading_of c) (accepted_at h) l.live free idle current (timely accepted)))
      go (rests_busy current b a q f among flying calm shows same) =
          let steady = (all_right (Sound l.reserved (reading_of c)) b (q ∷ a) (rw among at (now_sound l fine go_on))).0.steady in
          let few : f.transmissions ≤ max_transmissions = (rw flying at steady).1 in
          rw same (moved (rw among (early_busy limit (reading_of c) (accepted_at h) b a q flying few calm (rw among at current)
          (rw among at (timely accepted)))))

  pub quiet_ends : (s : Run) (c : Call) (time : Option ℕ) → Good limit s → Timed limit s
      → keeps_clock_rule (then limit s c).past ≡ true
      → (step limit s.ledger c).answer ≡ polled (quiet time)
      → All (λ a. a.time + longest limit ≤ reading_of c → endings a.place (then limit s c).past ≡ 1)
      (requests (then limit s c).past)
  quiet_ends s c time good timed kept answered =
      all_map (Fate (then limit s c).past) (λ a. a.time + longest limit ≤ reading_of c
      → endings a.place (then limit s c).past ≡ 1)
      over (requests (then limit s c).past) next.told.fates
    where
      next : Good limit (then limit s c)
      next = good_step limit enough s c good

      early : All (λ q. reading_of c < accepted_at (then limit s c).past q + 3000 * limit + 3000) (then limit s c).ledger.live
      early = quiet_early s.ledger c s.past (step limit s.ledger c) time good.fine
          (view limit s.ledger c) timely answered
        where
          timely : is_accepted (step limit s.ledger c).answer ≡ true
              → Timely limit (reading_of c) (accepted_at s.past) s.ledger.live
          timely accepted = timed.ready (reading_of c) (clock_on (view limit s.ledger c))
              (kept_now (entry_of c (step limit s.ledger c)) s.past accepted kept)
            where
              clock_on : View limit s.ledger c (step limit s.ledger c) → s.ledger.clock ≤ reading_of c
              clock_on (refuses n number buffers same) = let z : ◌≡◌ {A = ℕ} 0 1 = cc in absurd (omega arith)
              clock_on (accepts go_on accepted' keeps change) = go_on

      over : (a : Asked) → Fate (then limit s c).past a → a.time + longest limit ≤ reading_of c
          → endings a.place (then limit s c).past ≡ 1
      over a (has_ended once) late = once
      over a (still_live among unended) late =
          let mine = owned (then limit s c).past (live_after (then limit s c).past) (then limit s c).ledger.live a among
          next.told.owners in
          let soon = all_of (λ q. reading_of c < accepted_at (then limit s c).past q + 3000 * limit + 3000)
          (then limit s c).ledger.live early mine.0 mine.2 in
          let same : accepted_at (then limit s c).past mine.0 ≡ a.time = ap time_of mine.1.last in
          absurd (omega arith)

  -- no accepted call comes later than that while a request is live
  pub call_in_time : (s : Run) (c : Call) → Good limit s → Timed limit s → s.ledger.clock ≤ reading_of c
      → may_follow s.past (reading_of c) ≡ true
      → All (λ a. reading_of c ≤ a.time + longest limit) (live_after s.past)
  call_in_time s c good timed on may = go (live_after s.past) (λ a among. among)
    where
      timely : Timely limit (reading_of c) (accepted_at s.past) s.ledger.live
      timely = timed.ready (reading_of c) on may

      within : All (λ q. reading_of c ≤ accepted_at s.past q + 3000 * limit + 3000) s.ledger.live
      within = line_in_time limit (reading_of c) (accepted_at s.past) timely.base timely.base s.ledger.live
          timely.later (omega arith) timely.line

      one : (a : Asked) → a ∈ live_after s.past → reading_of c ≤ a.time + longest limit
      one a among =
          let mine = owned s.past (live_after s.past) s.ledger.live a among good.told.owners in
          let soon = all_of (λ q. reading_of c ≤ accepted_at s.past q + 3000 * limit + 3000) s.ledger.live within mine.0
          mine.2 in
          let same : accepted_at s.past mine.0 ≡ a.time = ap time_of mine.1.last in
          omega arith

      go : (live : List Asked) → ((a : Asked) → a ∈ live → a ∈ live_after s.past)
          → All (λ a. reading_of c ≤ a.time + longest limit) live
      go [] sub = tt
      go (a ∷ live) sub = (one a (sub a here), go live (λ x m. sub x (there m)))

  -- at every call of a list
  record Told-in-time (s : Run) : Type 0 where
    timed : keeps_clock_rule s.past ≡ true → Timed limit s
    bounded : Bounded (longest limit) s.past

  clock_of : (l : Ledger) (c : Call) {d : Done} → View limit l c d → is_accepted d.answer ≡ true → l.clock ≤ reading_of c
  clock_of l c (refuses n number buffers same) accepted = let z : ◌≡◌ {A = ℕ} 0 1 = cc in absurd (omega arith)
  clock_of l c (accepts go_on accepted' keeps change) accepted = go_on

  bounded_step : (s : Run) (c : Call) → Good limit s → Told-in-time s → Told-in-time (then limit s c)
  bounded_step s c good told =
      let d = step limit s.ledger c in
      let e = entry_of c d in
      record {
        timed = λ kept. timed_step limit enough s c good kept (told.timed (kept_before e s.past kept));
        bounded = (
          (λ rule.
              let kept = rule_test (e ∷ s.past) rule in
              let before = told.timed (kept_before e s.past kept) in (
                (λ time answered. quiet_ends s c time good before kept answered),
                (λ accepted. call_in_time s c good before (clock_of s.ledger c (view limit s.ledger c) accepted)
                    (kept_now e s.past accepted kept)),
              )),
          told.bounded,
        );
      }

  bounded_run : (s : Run) (cs : List Call) → Good limit s → Told-in-time s → Told-in-time (run limit s cs)
  unfolding run
  bounded_run s [] good told = told
  bounded_run s (c ∷ cs) good told = bounded_run (then limit s c) cs (good_step limit enough s c good) (bounded_step s c good told)

  pub always_bounded : (given : ℕ) (cs : List Call) → Bounded (longest limit) (run limit (start given) cs).past
  always_bounded given cs =
      (bounded_run (start given) cs (start_good limit given) (record { timed = λ kept. start_timed limit given; bounded = tt })
      ).bounded
