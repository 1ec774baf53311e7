-- The limits of what a call names (docs/SESSION-SCRIPT.md).
use Rattle.std.specs.Prelude.{ℕ, ◌≤◌}
use Rattle.script.specs.declared.calls.Call.{Call}
use Rattle.script.specs.declared.calls.Call.TheVariants.{Open, Submit, Receive, Poll}

-- the most bytes of a lent buffer
abbrev pub lent_max : ℕ
lent_max = 4096

-- the buffers of a call are within that limit, and the bytes that it names, as many as `count` tells of what it has of them, are
-- among n
abbrev pub Within : {B : Type 0} → (count : B → ℕ) → ℕ → Call B → Type 0
Within count n (Open reserved) = 0 ≤ n
Within count n (Submit fields wanted clock bytes) = count bytes ≤ n
Within count n (Receive clock reply buffer bytes) = (reply ≤ lent_max) × (buffer ≤ lent_max) × (count bytes ≤ n)
Within count n (Poll clock output) = output ≤ lent_max
