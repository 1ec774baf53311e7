-- The rule for the clock as a test, which the proofs about lists compute; and that it is the rule (`rule_test`, `test_rule`).
use Prim.Native.Nat.{ℕ, ◌+◌}
use mathlib.Core.Bool.{Bool, true, false, not, ◌&&◌, ◌||◌, cond as if}
use mathlib.Core.List.{List, [], ◌∷◌}
use mathlib.Core.Option.{Option, none, some}
use mathlib.Core.Path.{◌≡◌, refl}
use native.Mathlib.Omega.{arith}
use lib.Dec.{leb, ltb}
use borrow.Author.Tests.{ltb-true, lt-ltb, leb-true, le-leb}
use Rattle.message.proofs.Headers.{both}
use Rattle.ledger.specs.Answers.{Poll, sent, ended, quiet, Answer, refused, opened, submitted, received, polled}
use Rattle.ledger.specs.Calls.{reading_of}
use Rattle.ledger.specs.Runs.{Entry}
use Rattle.claims.specs.Trace.{is_accepted}
use Rattle.claims.specs.ClockRule.{accepted_in, Waited, EachFollows, ClockRule}
use Rattle.ledger.proofs.Cases.{by_test}

-- how far the next reading may be after a poll, and after any answer
abbrev pub leave_of : Poll → (reading later : ℕ) → Bool
leave_of (sent n) reading later = false
leave_of (ended x) reading later = false
leave_of (quiet none) reading later = true
leave_of (quiet (some time)) reading later = leb later (reading + time)

abbrev pub may_be_later : Answer → (reading later : ℕ) → Bool
may_be_later (refused number) reading later = false
may_be_later opened reading later = false
may_be_later (submitted id) reading later = false
may_be_later (received r) reading later = false
may_be_later (polled p) reading later = leave_of p reading later

-- whether a reading may follow on those before
unfoldable pub may_follow : List Entry → (reading : ℕ) → Bool
may_follow [] later = true
may_follow (e ∷ es) later =
    if (is_accepted e.answer)
    (if (ltb (reading_of e.call) later) (may_be_later e.answer (reading_of e.call) later) true)
    (may_follow es later)

-- whether every accepted call keeps the rule
unfoldable pub keeps_clock_rule : List Entry → Bool
keeps_clock_rule [] = true
keeps_clock_rule (e ∷ es) = (not (is_accepted e.answer) || may_follow es (reading_of e.call)) && keeps_clock_rule es

-- a quiet poll that was waited for lets a reading be later, and nothing else does
waited_leaves : (b e : Entry) → Waited b e → may_be_later b.answer (reading_of b.call) (reading_of e.call) ≡ true
waited_leaves b e h = rw h.rested (go h.time refl)
  where
    go : (time : Option ℕ) → h.time ≡ time → leave_of (quiet time) (reading_of b.call) (reading_of e.call) ≡ true
    go none same = refl
    go (some ms) same = le-leb (reading_of e.call) (reading_of b.call + ms) (omega (arith, h.within ms same))

leaves_waited : (b e : Entry) → may_be_later b.answer (reading_of b.call) (reading_of e.call) ≡ true → Waited b e
leaves_waited b e h = go b.answer refl h
  where
    go : (a : Answer) → b.answer ≡ a → may_be_later a (reading_of b.call) (reading_of e.call) ≡ true → Waited b e
    go (refused n) same k = let z : ◌≡◌ {A = ℕ} 0 1 = cc in absurd (omega arith)
    go opened same k = let z : ◌≡◌ {A = ℕ} 0 1 = cc in absurd (omega arith)
    go (submitted id) same k = let z : ◌≡◌ {A = ℕ} 0 1 = cc in absurd (omega arith)
    go (received r) same k = let z : ◌≡◌ {A = ℕ} 0 1 = cc in absurd (omega arith)
    go (polled (sent n)) same k = let z : ◌≡◌ {A = ℕ} 0 1 = cc in absurd (omega arith)
    go (polled (ended x)) same k = let z : ◌≡◌ {A = ℕ} 0 1 = cc in absurd (omega arith)
    go (polled (quiet none)) same k = record {
      time = none;
      rested = same;
      within = λ ms m. (let z : ◌≡◌ {A = ℕ} 0 1 = cc in absurd (omega arith));
    }
    go (polled (quiet (some time))) same k = record {
      time = some time;
      rested = same;
      within = λ ms m. (let same-time : time ≡ ms = cc in
          let le = leb-true (reading_of e.call) (reading_of b.call + time) k in omega arith);
    }

-- the same of a call and the accepted one before it, if any
module _ (e : Entry) where
  follows_test : (es : List Entry) → EachFollows (e ∷ accepted_in es) → may_follow es (reading_of e.call) ≡ true
  unfolding accepted_in may_follow
  follows_test [] h = refl
  follows_test (b ∷ es) h =
      by_test (λ x. EachFollows (e ∷ if x (b ∷ accepted_in es) (accepted_in es))
      → if x (if (ltb (reading_of b.call) (reading_of e.call)) (may_be_later b.answer (reading_of b.call) (reading_of e.call)) true)
      (may_follow es (reading_of e.call)) ≡ true)
      (is_accepted b.answer)
      (λ accepted k. by_test (λ x. if x (may_be_later b.answer (reading_of b.call) (reading_of e.call)) true ≡ true)
      (ltb (reading_of b.call) (reading_of e.call))
      (λ later. waited_leaves b e (k.0 (omega (arith, ltb-true (reading_of b.call) (reading_of e.call) later))))
      (λ later. refl))
      (λ refused k. follows_test es k)
      h

  test_follows : (es : List Entry) → may_follow es (reading_of e.call) ≡ true → EachFollows (accepted_in es)
      → EachFollows (e ∷ accepted_in es)
  unfolding accepted_in may_follow
  test_follows [] h rest = omega arith
  test_follows (b ∷ es) h rest =
      by_test (λ x. if x (if (ltb (reading_of b.call) (reading_of e.call))
      (may_be_later b.answer (reading_of b.call) (reading_of e.call)) true)
      (may_follow es (reading_of e.call)) ≡ true
      → EachFollows (if x (b ∷ accepted_in es) (accepted_in es)) → EachFollows (e ∷ if x (b ∷ accepted_in es) (accepted_in es)))
      (is_accepted b.answer)
      (λ accepted k others. (
        (λ later. leaves_waited b e (rw (lt-ltb (reading_of b.call) (reading_of e.call) (omega arith)) at k)),
        others,
      ))
      (λ refused k others. test_follows es k others)
      h rest

pub without_newest : (e : Entry) (es : List Entry) → EachFollows (e ∷ es) → EachFollows es
without_newest e [] h = tt
without_newest e (b ∷ es) h = h.1

pub rule_test : (past : List Entry) → ClockRule past → keeps_clock_rule past ≡ true
unfolding accepted_in keeps_clock_rule
rule_test [] h = refl
rule_test (e ∷ es) h =
    by_test (λ x. EachFollows (if x (e ∷ accepted_in es) (accepted_in es))
    → ((not x || may_follow es (reading_of e.call)) && keeps_clock_rule es) ≡ true)
    (is_accepted e.answer)
    (λ accepted k. rw (follows_test e es k) (rule_test es (without_newest e (accepted_in es) k)))
    (λ refused k. rule_test es k)
    h

pub test_rule : (past : List Entry) → keeps_clock_rule past ≡ true → ClockRule past
unfolding accepted_in keeps_clock_rule
test_rule [] h = tt
test_rule (e ∷ es) h =
    by_test (λ x. ((not x || may_follow es (reading_of e.call)) && keeps_clock_rule es) ≡ true
    → EachFollows (if x (e ∷ accepted_in es) (accepted_in es)))
    (is_accepted e.answer)
    (λ accepted k.
    let parts = both (may_follow es (reading_of e.call)) (keeps_clock_rule es) k in test_follows e es parts.0 (test_rule es parts.1))
    (λ refused k. test_rule es k)
    h
