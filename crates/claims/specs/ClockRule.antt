-- Document 01, "The rule for the clock", on calls and outcomes alone. The same as a test is in `proofs/ClockTest.antt`, with the laws that
-- the two agree (`rule_test`, `test_rule`).
use Rattle.std.specs.Prelude.{ℕ, ◌+◌, ◌≤◌, ◌<◌, cond as if, List, [], ◌∷◌, ◌≡◌}
use Rattle.std.proofs.Math.Option.{Option, some}
use Rattle.ledger.specs.Answers.{quiet, polled}
use Rattle.ledger.specs.Calls.{reading_of}
use Rattle.ledger.specs.Runs.{Entry}
use Rattle.claims.specs.Trace.{is_accepted}

-- "The rule for the clock looks at accepted calls that take one.": those of a list, newest first. Every call after open takes one
unfoldable pub accepted_in : List Entry → List Entry
accepted_in [] = []
accepted_in (e ∷ es) = if (is_accepted e.answer) (e ∷ accepted_in es) (accepted_in es)

-- "the one before was a poll that answered quiet, and the later reading is at most that poll's reading plus the time it named, if any"
pub record Waited (before later : Entry) : Type 0 where
  pub time : Option ℕ
  pub rested : before.answer ≡ polled (quiet time)
  pub within : (ms : ℕ) → time ≡ some ms → reading_of later.call ≤ reading_of before.call + ms

-- "Where the reading of one is later than that of the one before it"
abbrev pub MayFollow : (before later : Entry) → Type 0
MayFollow before later = reading_of before.call < reading_of later.call → Waited before later

-- each of them and the one before it; "The first reading is free."
abbrev pub EachFollows : List Entry → Type 0
EachFollows [] = Unit
EachFollows (first ∷ []) = Unit
EachFollows (later ∷ (before ∷ earlier)) = MayFollow before later × EachFollows (before ∷ earlier)

-- the rule, of what has happened
abbrev pub ClockRule : List Entry → Type 0
ClockRule past = EachFollows (accepted_in past)
