-- When each live request leaves at the latest, under the clock rule, and that no change makes it later. The line is free by `base`:
-- the frame in flight leaves by then, and each queued request 3,000 ms after the one before it.
use Prim.Native.Nat.{ℕ, suc, ◌+◌, ◌*◌, ◌-◌, ◌≤◌, ◌<◌}
use mathlib.Core.Bool.{false}
use mathlib.Core.List.{List, [], ◌∷◌, ◌++◌}
use mathlib.Core.Option.{Option, none, some}
use mathlib.Core.Path.{◌≡◌, refl, sym, ◌∙◌, subst}
use native.Mathlib.Omega.{arith}
use lib.Dec.{leb}
use lib.ListN.{length}
use borrow.Author.Tests.{leb-true, leb-false}
use Rattle.link.specs.Frames.{Frame, max_transmissions, deadline, due, first_sent}
use Rattle.link.proofs.Laws.{not_due}
use Rattle.ledger.specs.Lists.{All}
use Rattle.ledger.specs.Parts.{State, queued, in_flight, waiting, Request, Ledger, with_state}
use Rattle.ledger.specs.Receiving.{frame_in, flies, provided}
use Rattle.ledger.specs.Polling.{response_time, overdue_in, queued_in, deadline_in, earlier, earliest}
use Rattle.ledger.specs.Refusals.{flies_once, flights}
use Rattle.ledger.proofs.Cases.{by_test}
use Rattle.claims.proofs.Lists.{all_map, all_right}
use Rattle.claims.proofs.Views.{Turn, acknowledges, marks, starts, sends_again}
use Rattle.claims.proofs.Fine.{Steady, Sound}

-- a request that was accepted at `since`, where the line is free for it by `free`
abbrev pub Ok : (limit t base free accepted : ℕ) → State → Type 0
Ok limit t base free accepted queued = free + 3000 ≤ accepted + 3000 * limit
Ok limit t base free accepted (in_flight f) =
    (t ≤ deadline f) × (f.sent + 4000 ≤ base + 1000 * f.transmissions) × (free ≤ accepted + 3000 * limit)
Ok limit t base free accepted (waiting since) = (t ≤ since + response_time) × (since ≤ accepted + 3000 * limit)

-- when the line is free for the one behind it
abbrev pub free_after : ℕ → State → ℕ
free_after free queued = free + 3000
free_after free (in_flight f) = free
free_after free (waiting since) = free

-- all of them, oldest first; `accepted` is the reading at which each was accepted
abbrev pub Line : (limit t base free : ℕ) (accepted : Request → ℕ) → List Request → Type 0
Line limit t base free accepted [] = Unit
Line limit t base free accepted (q ∷ qs) =
    Ok limit t base free (accepted q) q.state × Line limit t base (free_after free q.state) accepted qs

pub record Timely (limit t : ℕ) (accepted : Request → ℕ) (live : List Request) : Type 0 where
  pub base : ℕ
  pub later : t ≤ base
  pub line : Line limit t base base accepted live

module _ (limit t : ℕ) (accepted : Request → ℕ) where
  -- it is free sooner
  ok_sooner : (base free free' a : ℕ) (s : State) → free' ≤ free → Ok limit t base free a s → Ok limit t base free' a s
  ok_sooner base free free' a queued less h = omega arith
  ok_sooner base free free' a (in_flight f) less h = (h.0, h.1, omega arith)
  ok_sooner base free free' a (waiting since) less h = h

  after_sooner : (free free' : ℕ) (s : State) → free' ≤ free → free_after free' s ≤ free_after free s
  after_sooner free free' queued less = omega arith
  after_sooner free free' (in_flight f) less = less
  after_sooner free free' (waiting since) less = less

  line_sooner : (base free free' : ℕ) (qs : List Request) → free' ≤ free → Line limit t base free accepted qs
      → Line limit t base free' accepted qs
  line_sooner base free free' [] less h = tt
  line_sooner base free free' (q ∷ qs) less h = (
    ok_sooner base free free' (accepted q) q.state less h.0,
    line_sooner base (free_after free q.state) (free_after free' q.state) qs (after_sooner free free' q.state less) h.1,
  )

  after_grows : (free : ℕ) (s : State) → free ≤ free_after free s
  after_grows free queued = omega arith
  after_grows free (in_flight f) = omega arith
  after_grows free (waiting since) = omega arith

  -- one leaves
  pub line_less : (base free : ℕ) (b a : List Request) (q : Request) → Line limit t base free accepted (b ++ (q ∷ a))
      → Line limit t base free accepted (b ++ a)
  line_less base free [] a q h = line_sooner base (free_after free q.state) free a (after_grows free q.state) h.1
  line_less base free (x ∷ b) a q h = (h.0, line_less base (free_after free x.state) b a q h.1)

  -- one goes into another state, and does not leave the line later
  record Lighter (base a : ℕ) (from to : State) : Type 0 where
    ok : (free : ℕ) → base ≤ free → Ok limit t base free a from → Ok limit t base free a to
    after : (free : ℕ) → free_after free to ≡ free_after free from

  lighter : (l : Ledger) (q : Request) (base a : ℕ) {from to : State} {frame : Option (List ℕ)} → Turn l t q from to frame
      → t ≤ base
      → (from ≡ queued → ⊥) → Lighter base a from to
  lighter l q base a (acknowledges wanted) on sent = record { ok = λ free h k. (omega arith, omega arith); after = λ free. refl }
  lighter l q base a marks on sent = record { ok = λ free h k. k; after = λ free. refl }
  lighter l q base a starts on sent = absurd (sent refl)
  lighter l q base a (sends_again late may) on sent = record {
    ok = λ free h k. (omega arith, omega arith, k.2);
    after = λ free.
        refl;
  }

  line_turn : (base free : ℕ) (b a : List Request) (q : Request) (s : State) → base ≤ free → Lighter base (accepted q) q.state s
      → accepted (with_state s q) ≡ accepted q
      → Line limit t base free accepted (b ++ (q ∷ a)) → Line limit t base free accepted (b ++ (with_state s q ∷ a))
  line_turn base free [] a q s on light same h = rw (same, light.after free) (light.ok free on h.0, h.1)
  line_turn base free (x ∷ b) a q s on light same h =
      let more = after_grows free x.state in
      (h.0, line_turn base (free_after free x.state) b a q s (omega arith) light same h.1)

  -- where none is in flight, base does not matter
  ok_unflown : (base base' free a : ℕ) (s : State) → frame_in s ≡ none → Ok limit t base free a s → Ok limit t base' free a s
  ok_unflown base base' free a queued h k = k
  ok_unflown base base' free a (in_flight f) h k = let z : ◌≡◌ {A = ℕ} 0 1 = cc in absurd (omega arith)
  ok_unflown base base' free a (waiting since) h k = k

  line_unflown : (base base' free : ℕ) (qs : List Request) → All (λ q. flies q ≡ none) qs → Line limit t base free accepted qs
      → Line limit t base' free accepted qs
  line_unflown base base' free [] down h = tt
  line_unflown base base' free (q ∷ qs) down h = (
    ok_unflown base base' free (accepted q) q.state down.0 h.0,
    line_unflown base base' (free_after free q.state) qs
        down.1 h.1,
  )

  -- where none is queued either, neither does when it is free
  ok_idle : (base free base' free' a : ℕ) (s : State) → frame_in s ≡ none → queued_in s ≡ none → Ok limit t base free a s
      → Ok limit t base' free' a s
  ok_idle base free base' free' a queued h j k = let z : ◌≡◌ {A = ℕ} 0 1 = cc in absurd (omega arith)
  ok_idle base free base' free' a (in_flight f) h j k = let z : ◌≡◌ {A = ℕ} 0 1 = cc in absurd (omega arith)
  ok_idle base free base' free' a (waiting since) h j k = k

  line_idle : (base free base' free' : ℕ) (qs : List Request) → All (λ q. flies q ≡ none) qs
      → All (λ q. queued_in q.state ≡ none) qs
      → Line limit t base free accepted qs → Line limit t base' free' accepted qs
  line_idle base free base' free' [] down idle h = tt
  line_idle base free base' free' (q ∷ qs) down idle h = (
    ok_idle base free base' free' (accepted q) q.state down.0 idle.0 h.0,
    line_idle base (free_after free q.state) base' (free_after free' q.state) qs down.1 idle.1 h.1,
  )

  after_idle : (free : ℕ) (s : State) → queued_in s ≡ none → free_after free s ≡ free
  after_idle free queued h = let z : ◌≡◌ {A = ℕ} 0 1 = cc in absurd (omega arith)
  after_idle free (in_flight f) h = refl
  after_idle free (waiting since) h = refl

  -- the oldest queued one is sent, where none is in flight: those before it wait
  line_start : (base free : ℕ) (b a : List Request) (q : Request) (f : Frame) → t ≤ free → f.transmissions ≡ 1 → f.sent ≡ t
      → All (λ x. flies x ≡ none) (b ++ (q ∷ a)) → All (λ x. queued_in x.state ≡ none) b → q.state ≡ queued
      → accepted (with_state (in_flight f) q) ≡ accepted q → Line limit t base free accepted (b ++ (q ∷ a))
      → Line limit t (free + 3000) (free + 3000) accepted (b ++ (with_state (in_flight f) q ∷ a))
  line_start base free [] a q f on first now down idle new same h =
      let ok : Ok limit t base free (accepted q) queued = subst (Ok limit t base free (accepted q)) new h.0 in
      let rest : Line limit t base (free_after free queued) accepted a =
      subst (λ s. Line limit t base (free_after free s) accepted a) new h.1 in
      (rw same (omega arith, omega arith, ok), line_unflown base (free + 3000) (free + 3000) a down.1 rest)
  line_start base free (x ∷ b) a q f on first now down idle new same h =
      let rest = line_start base free b a q f on first now down.1 idle.1 new same
      (rw (after_idle free x.state idle.0) at h.1) in (
        ok_idle base free (free + 3000) (free + 3000) (accepted x) x.state down.0 idle.0 h.0,
        rw (after_idle (free + 3000) x.state idle.0) rest,
      )

  pub timely_turn : (l : Ledger) (b a : List Request) (q : Request) {s : State} {frame : Option (List ℕ)}
      → Turn l t q q.state s frame
      → (q.state ≡ queued → All (λ x. flies x ≡ none) (b ++ (q ∷ a)) × All (λ x. queued_in x.state ≡ none) b)
      → ((s : State) → accepted (with_state s q) ≡ accepted q)
      → Timely limit t accepted (b ++ (q ∷ a)) → Timely limit t accepted (b ++ (with_state s q ∷ a))
  timely_turn l b a q {s} turn first same h = go q.state refl turn
    where
      flown : {f : Frame} → in_flight f ≡ queued → ⊥
      flown e = let z : ◌≡◌ {A = ℕ} 0 1 = cc in omega arith

      lightly : {from to : State} → q.state ≡ from → Lighter h.base (accepted q) from to
          → Timely limit t accepted (b ++ (with_state to q ∷ a))
      lightly {from} {to} e light =
          record {
            base = h.base;
            later = h.later;
            line = line_turn h.base h.base b a q to (omega arith)
                (subst (λ s. Lighter h.base (accepted q) s to) (sym e) light) (same to) h.line;
          }

      go : (from : State) {to : State} {frame : Option (List ℕ)} → q.state ≡ from → Turn l t q from to frame
          → Timely limit t accepted (b ++ (with_state to q ∷ a))
      go queued e starts =
          let on = h.later in
          record {
            base = h.base + 3000;
            later = omega arith;
            line = line_start h.base h.base b a q (first_sent l.next_seq t) h.later refl refl (first e).0 (first e).1 e
                (same _) h.line;
          }
      go (in_flight f) e (acknowledges wanted) = lightly e (lighter l q h.base (accepted q) (acknowledges wanted)
          h.later flown)
      go (in_flight f) e marks = lightly e (lighter l q h.base (accepted q) marks h.later flown)
      go (in_flight f) e (sends_again late may) = lightly e (lighter l q h.base (accepted q) (sends_again late may)
          h.later flown)
      go (waiting since) e moves = elim moves [ ]

  -- how many are queued
  queued_once : State → ℕ
  queued_once queued = 1
  queued_once (in_flight f) = 0
  queued_once (waiting since) = 0

  queueds : List Request → ℕ
  queueds [] = 0
  queueds (q ∷ qs) = queued_once q.state + queueds qs

  one_at_most : (s : State) → queued_once s + flies_once s ≤ 1
  unfolding queued_once
  one_at_most queued = omega arith
  one_at_most (in_flight f) = omega arith
  one_at_most (waiting since) = omega arith

  all_at_most : (qs : List Request) → queueds qs + flights qs ≤ length qs
  unfolding queueds flights
  all_at_most [] = omega arith
  all_at_most (q ∷ qs) = let rest = all_at_most qs in let here = one_at_most q.state in omega arith

  after_once : (free : ℕ) (s : State) → free_after free s ≡ free + 3000 * queued_once s
  unfolding queued_once
  after_once free queued = omega arith
  after_once free (in_flight f) = omega arith
  after_once free (waiting since) = omega arith

  -- one joins behind the others
  line_more : (base free : ℕ) (qs : List Request) (q : Request) → q.state ≡ queued
      → free + 3000 * queueds qs + 3000 ≤ accepted q + 3000 * limit → Line limit t base free accepted qs
      → Line limit t base free accepted (qs ++ (q ∷ []))
  unfolding queueds
  line_more base free [] q new room h = (subst (Ok limit t base free (accepted q)) (sym new) (omega arith), tt)
  line_more base free (x ∷ qs) q new room h =
      let more = after_once free x.state in
      (h.0, line_more base (free_after free x.state) qs q new (omega arith) h.1)

  -- the line is free by 3,000 ms from now, or now where none is in flight
  line_rebase : (r base base' free free' : ℕ) (qs : List Request) → free' ≤ free → All (Sound r t) qs
      → t + 3000 * flights qs ≤ base'
      → Line limit t base free accepted qs → Line limit t base' free' accepted qs
  unfolding flights
  line_rebase r base base' free free' [] less sound on h = tt
  line_rebase r base base' free free' (q ∷ qs) less sound on h = (
    ok q.state sound.0.steady (omega arith) h.0,
    line_rebase r base base' (free_after free q.state) (free_after free' q.state) qs (after_sooner free free' q.state less)
        sound.1
        (omega arith) h.1,
  )
    where
      ok : (s : State) → Steady t q.wanted s → t + 3000 * flies_once s ≤ base' → Ok limit t base free (accepted q) s
          → Ok limit t base' free' (accepted q) s
      ok queued steady enough h = omega arith
      ok (in_flight f) steady enough h = (h.0, omega arith, omega arith)
      ok (waiting since) steady enough h = h

  pub timely_join : (r : ℕ) (live : List Request) (q : Request) → q.state ≡ queued → accepted q ≡ t → All (Sound r t) live
      → flights live ≤ 1 → length live < limit → Timely limit t accepted live → Timely limit t accepted (live ++ (q ∷ []))
  timely_join r live q new at sound one room h =
      let count = all_at_most live in
      by_test (λ b. leb h.base (t + 3000 * flights live) ≡ b → Timely limit t accepted (live ++ (q ∷ [])))
      (leb h.base (t + 3000 * flights live))
      (λ b e.
      let early = leb-true h.base (t + 3000 * flights live) e in
      record { base = h.base; later = h.later; line = line_more h.base h.base live q new (omega arith) h.line })
      (λ b e.
      let base = t + 3000 * flights live in
      let early = leb-false h.base base e in
      record {
        base = base;
        later = omega arith;
        line = line_more base base live q new (omega arith)
            (line_rebase r h.base base h.base base live (omega arith) sound (omega arith) h.line);
      })
      refl

  pub timely_less : (b a : List Request) (q : Request) → Timely limit t accepted (b ++ (q ∷ a)) → Timely limit t accepted (b ++ a)
  timely_less b a q h = record { base = h.base; later = h.later; line = line_less h.base h.base b a q h.line }

-- a reading that no deadline of a request has passed
abbrev pub Until : ℕ → Request → Type 0
Until t q = (d : ℕ) → deadline_in q.state ≡ some d → t ≤ d

pub some_number : {x y : ℕ} → some x ≡ some y → x ≡ y
some_number h = cc

-- with no deadline, none has passed
pub no_deadline : (m : ℕ) (qs : List Request) → earliest qs ≡ none → All (Until m) qs
unfolding earliest
no_deadline m [] e = tt
no_deadline m (q ∷ qs) e = go (deadline_in q.state) refl (earliest qs) refl e (no_deadline m qs)
  where
    go : (o : Option ℕ) → deadline_in q.state ≡ o → (rest : Option ℕ) → earliest qs ≡ rest → earlier o rest ≡ none
        → (earliest qs ≡ none → All (Until m) qs) → All (Until m) (q ∷ qs)
    go none d rest r e ih = ((λ x k. let z : ◌≡◌ {A = ℕ} 0 1 = cc in absurd (omega arith)), ih (r ∙ e))
    go (some a) d none r e ih = let z : ◌≡◌ {A = ℕ} 0 1 = cc in absurd (omega arith)
    go (some a) d (some b) r e ih = let z : ◌≡◌ {A = ℕ} 0 1 = cc in absurd (omega arith)

pub until_sooner : {m n : ℕ} → n ≤ m → (q : Request) → Until m q → Until n q
until_sooner less q h d k = let rest = h d k in omega arith

-- the earliest deadline is no later than any
pub least : (qs : List Request) {m : ℕ} → earliest qs ≡ some m → All (Until m) qs
unfolding earliest
least [] e = tt
least (q ∷ qs) {m} e = go (deadline_in q.state) refl (earliest qs) refl e (λ n k. least qs {m = n} k)
  where
    go : (o : Option ℕ) → deadline_in q.state ≡ o → (rest : Option ℕ) → earliest qs ≡ rest → earlier o rest ≡ some m
        → ((n : ℕ) → earliest qs ≡ some n → All (Until n) qs) → All (Until m) (q ∷ qs)
    go none d rest r e ih = ((λ x k. let z : ◌≡◌ {A = ℕ} 0 1 = cc in absurd (omega arith)), ih m (r ∙ e))
    go (some a) d none r e ih =
        ((λ x k. let f = some_number e in let g = some_number (sym d ∙ k) in omega arith), no_deadline m qs r)
    go (some a) d (some b) r e ih =
        let f = some_number e in (
          (λ x k. let g = some_number (sym d ∙ k) in omega arith),
          all_map (Until b) (Until m) (until_sooner (omega arith)) qs
              (ih b r),
        )

-- and no earlier than a reading that none of them has passed
pub not_before : (t : ℕ) (qs : List Request) {m : ℕ} → earliest qs ≡ some m → All (Until t) qs → t ≤ m
unfolding earliest
not_before t [] e h = let z : ◌≡◌ {A = ℕ} 0 1 = cc in absurd (omega arith)
not_before t (q ∷ qs) {m} e h = go (deadline_in q.state) refl (earliest qs) refl e (λ n k. not_before t qs {m = n} k h.1)
  where
    go : (o : Option ℕ) → deadline_in q.state ≡ o → (rest : Option ℕ) → earliest qs ≡ rest → earlier o rest ≡ some m
        → ((n : ℕ) → earliest qs ≡ some n → t ≤ n) → t ≤ m
    go none d rest r e ih = ih m (r ∙ e)
    go (some a) d none r e ih = let f = some_number e in let g = h.0 a d in omega arith
    go (some a) d (some b) r e ih = let f = some_number e in let g = h.0 a d in let k = ih b r in omega arith

module _ (limit t : ℕ) (accepted : Request → ℕ) where
  ok_until : (base free a : ℕ) (s : State) → Ok limit t base free a s → (d : ℕ) → deadline_in s ≡ some d → t ≤ d
  ok_until base free a queued h d k = let z : ◌≡◌ {A = ℕ} 0 1 = cc in absurd (omega arith)
  ok_until base free a (in_flight f) h d k = let g = some_number k in omega arith
  ok_until base free a (waiting since) h d k = let g = some_number k in omega arith

  pub line_until : (base free : ℕ) (qs : List Request) → Line limit t base free accepted qs → All (Until t) qs
  line_until base free [] h = tt
  line_until base free (q ∷ qs) h = (
    ok_until base free (accepted q) q.state h.0,
    line_until base
        (free_after free q.state) qs h.1,
  )

  -- time goes on, up to a deadline
  ok_on : (t' base free a : ℕ) (s : State) → ((d : ℕ) → deadline_in s ≡ some d → t' ≤ d) → Ok limit t base free a s
      → Ok limit t' base free a s
  ok_on t' base free a queued until h = h
  ok_on t' base free a (in_flight f) until h = (until (deadline f) refl, h.1, h.2)
  ok_on t' base free a (waiting since) until h = (until (since + response_time) refl, h.1)

  line_on : (t' base free : ℕ) (qs : List Request) → All (Until t') qs → Line limit t base free accepted qs
      → Line limit t' base free accepted qs
  line_on t' base free [] until h = tt
  line_on t' base free (q ∷ qs) until h = (
    ok_on t' base free (accepted q) q.state until.0 h.0,
    line_on t' base (free_after free q.state) qs until.1
        h.1,
  )

  -- the one in flight leaves by base
  flown_by : (base free : ℕ) (b a : List Request) (q : Request) {f : Frame} → q.state ≡ in_flight f
      → f.transmissions ≤ max_transmissions
      → Line limit t base free accepted (b ++ (q ∷ a)) → deadline f ≤ base
  flown_by base free [] a q {f} flying few h =
      let ok : Ok limit t base free (accepted q) (in_flight f) =
      subst (Ok limit t base free (accepted q)) flying h.0 in omega arith
  flown_by base free (x ∷ b) a q flying few h = flown_by base (free_after free x.state) b a q flying few h.1

  pub timely_busy : (t' : ℕ) (b a : List Request) (q : Request) {f : Frame} → q.state ≡ in_flight f
      → f.transmissions ≤ max_transmissions
      → All (Until t') (b ++ (q ∷ a)) → Timely limit t accepted (b ++ (q ∷ a)) → Timely limit t' accepted (b ++ (q ∷ a))
  timely_busy t' b a q {f} flying few until h =
      let by = flown_by h.base h.base b a q flying few h.line in
      let here = (all_right (Until t') b (q ∷ a) until).0 (deadline f) (rw flying) in
      record { base = h.base; later = omega arith; line = line_on t' h.base h.base (b ++ (q ∷ a)) until h.line }

  pub timely_free : (t' : ℕ) (live : List Request) → All (λ q. flies q ≡ none) live → All (λ q. queued_in q.state ≡ none) live
      → All (Until t') live → Timely limit t accepted live → Timely limit t' accepted live
  timely_free t' live down idle until h =
      record {
        base = t';
        later = omega arith;
        line = line_idle limit t' accepted h.base h.base t' t' live down idle
            (line_on t' h.base h.base live until h.line);
      }

-- what is left of the time
module _ (limit t : ℕ) (accepted : Request → ℕ) where
  -- none is live for longer than 3,000 ms for each that may be live, and 3,000 more
  pub line_in_time : (base free : ℕ) (qs : List Request) → t ≤ base → base ≤ free → Line limit t base free accepted qs
      → All (λ q. t ≤ accepted q + 3000 * limit + 3000) qs
  line_in_time base free [] on more h = tt
  line_in_time base free (q ∷ qs) on more h =
      let grown = after_grows limit t accepted free q.state in
      (here q.state h.0, line_in_time base (free_after free q.state) qs on (omega arith) h.1)
    where
      here : (s : State) → Ok limit t base free (accepted q) s → t ≤ accepted q + 3000 * limit + 3000
      here queued ok = omega arith
      here (in_flight f) ok = omega arith
      here (waiting since) ok = omega arith

  -- before its deadline a wait is not over
  pub current_wait : (since : ℕ) → overdue_in t (waiting since) ≡ none → t < since + response_time
  current_wait since h =
      by_test (λ b. leb response_time (t - since) ≡ b → provided {A = Unit {0}} b tt ≡ none → t < since + response_time)
      (leb response_time (t - since))
      (λ b e k. let z : ◌≡◌ {A = ℕ} 0 1 = cc in absurd (omega arith))
      (λ b e k. let less = leb-false response_time (t - since) e in omega arith)
      refl h

  -- and less for each that a quiet poll leaves live
  line_early : (base free : ℕ) (qs : List Request) → t < base → base ≤ free → All (λ q. overdue_in t q.state ≡ none) qs
      → Line limit t base free accepted qs → All (λ q. t < accepted q + 3000 * limit + 3000) qs
  line_early base free [] on more current h = tt
  line_early base free (q ∷ qs) on more current h =
      let grown = after_grows limit t accepted free q.state in
      (here q.state current.0 h.0, line_early base (free_after free q.state) qs on (omega arith) current.1 h.1)
    where
      here : (s : State) → overdue_in t s ≡ none → Ok limit t base free (accepted q) s → t < accepted q + 3000 * limit + 3000
      here queued k ok = omega arith
      here (in_flight f) k ok = omega arith
      here (waiting since) k ok = let less = current_wait since k in omega arith

  pub early_busy : (b a : List Request) (q : Request) {f : Frame} → q.state ≡ in_flight f → f.transmissions ≤ max_transmissions
      → due f t ≡ false → All (λ x. overdue_in t x.state ≡ none) (b ++ (q ∷ a)) → Timely limit t accepted (b ++ (q ∷ a))
      → All (λ x. t < accepted x + 3000 * limit + 3000) (b ++ (q ∷ a))
  early_busy b a q {f} flying few calm current h =
      let by = flown_by limit t accepted h.base h.base b a q flying few h.line in
      let less = (not_due f t calm).early in
      line_early h.base h.base (b ++ (q ∷ a)) (omega arith) (omega arith) current h.line

  pub early_free : (live : List Request) → All (λ x. flies x ≡ none) live → All (λ x. queued_in x.state ≡ none) live
      → All (λ x. overdue_in t x.state ≡ none) live → Timely limit t accepted live
      → All (λ x. t < accepted x + 3000 * limit + 3000) live
  early_free live down idle current h =
      line_early (suc h.base) (suc h.base) live (let on = h.later in omega arith) (omega arith) current
      (line_idle limit t accepted h.base h.base (suc h.base) (suc h.base) live down idle h.line)
