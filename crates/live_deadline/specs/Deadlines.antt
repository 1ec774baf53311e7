-- The time to a deadline, and that no time is later than the clock.
use Rattle.std.specs.Prelude as std
use Rattle.std.specs.Prelude.{ℕ, ◌-◌, ◌≤◌, List, All, Some, None}
use Rattle.std.proofs.Math.Option.{Option, none, some, map}
use Rattle.ledger.specs.Parts as ledger
use Rattle.ledger.specs.Parts.{queued, in_flight, waiting}
use Rattle.endpoint.specs.Endpoint.{state_of}
use Rattle.endpoint.specs.declared.Request.{Request}

-- the time that is answered
abbrev pub time_of : std.Option ℕ → Option ℕ
time_of None = none
time_of (Some ms) = some ms

-- the milliseconds from a reading to a deadline
abbrev pub left_of : (clock : ℕ) → (deadline : Option ℕ) → Option ℕ
left_of clock deadline = map (◌- clock) deadline

-- a time that is not later than the clock
abbrev pub IsInTime : (clock : ℕ) → ledger.State → Type 0
IsInTime clock queued = Unit
IsInTime clock (in_flight f) = f.sent ≤ clock
IsInTime clock (waiting since) = since ≤ clock

-- no time of these requests is later
abbrev pub NoneLate : (clock : ℕ) → List Request → Type 0
NoneLate clock rows = All (λ q. IsInTime clock (state_of q.state)) rows
