-- Polling comes to rest: how often polls at one reading answer something else than *quiet*, and how many of them come to a quiet one.
use Rattle.std.specs.Prelude.{ℕ, zero, suc, Bool, true, false, not, ◌&&◌, cond as if, List, [], ◌∷◌, map, ◌≡◌, eqb}
use Rattle.ledger.specs.Answers.{Poll, sent, ended, quiet, Answer, refused, opened, submitted, received, polled}
use Rattle.ledger.specs.Calls.{Call, poll, reading_of}
use Rattle.ledger.specs.Runs.{Outcome, Entry}
use Rattle.claims.specs.ClockRule.{accepted_in}

-- whether a poll does something, and is not *quiet*
abbrev pub is_busy : Poll → Bool
is_busy (sent n) = true
is_busy (ended x) = true
is_busy (quiet time) = false

-- whether an answer is that of such a poll, and whether it is *quiet*
abbrev pub is_busy_poll : Answer → Bool
is_busy_poll (refused number) = false
is_busy_poll opened = false
is_busy_poll (submitted id) = false
is_busy_poll (received r) = false
is_busy_poll (polled p) = is_busy p

abbrev pub is_quiet : Answer → Bool
is_quiet (refused number) = false
is_quiet opened = false
is_quiet (submitted id) = false
is_quiet (received r) = false
is_quiet (polled p) = not (is_busy p)

-- how many of the newest calls in a row were polls at a reading that did something
unfoldable pub busy_in_a_row : (reading : ℕ) → List Entry → ℕ
busy_in_a_row t [] = 0
busy_in_a_row t (e ∷ es) = if (is_busy_poll e.answer && eqb (reading_of e.call) t) (suc (busy_in_a_row t es)) 0

-- the same of the accepted calls, whatever refused ones stand between
abbrev pub restless : (reading : ℕ) → (past : List Entry) → ℕ
restless t past = busy_in_a_row t (accepted_in past)

-- polls at one reading, each with an output of its own
abbrev pub polls_at : (reading : ℕ) → (outputs : List (List ℕ)) → List Call
polls_at t outputs = map (λ output. poll output t) outputs

-- how many outcomes come before the first that is *quiet*; all of them where none is
unfoldable pub before_quiet : List Outcome → ℕ
before_quiet [] = zero
before_quiet (o ∷ os) = if (is_quiet o.answer) zero (suc (before_quiet os))

-- a call that was a poll at a reading, and not refused
pub record PollAt (reading : ℕ) (e : Entry) : Type 0 where
  pub answer : Poll
  pub answered : e.answer ≡ polled answer
  pub read : reading_of e.call ≡ reading

-- the newest of some calls, so many, were that
abbrev pub NewestPolled : (reading count : ℕ) → List Entry → Type 0
NewestPolled t zero es = Unit
NewestPolled t (suc n) [] = ⊥
NewestPolled t (suc n) (e ∷ es) = PollAt t e × NewestPolled t n es

-- the newest accepted calls were polls at a reading, whatever refused ones stand between
abbrev pub PolledAt : (reading count : ℕ) → (past : List Entry) → Type 0
PolledAt t n past = NewestPolled t n (accepted_in past)

-- how many polls at one reading come to a quiet one, where at most `limit` requests may be live: one for each of these, and the quiet one
abbrev pub polls_to_rest : (limit : ℕ) → ℕ
polls_to_rest limit = suc limit
