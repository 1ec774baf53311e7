-- A call whose bytes are told in two ways (docs/SESSION-SCRIPT.md): by how many of the lent ones they are, and as they stand there.
use Rattle.script.specs.declared.calls.Call.{Call}
use Rattle.script.specs.declared.calls.Call.TheVariants.{Open, Submit, Receive, Poll}

-- the call with its bytes told by f, and the same arguments
abbrev pub mapped : {A B : Type 0} → (f : A → B) → Call A → Call B
mapped f (Open reserved) = Open reserved
mapped f (Submit fields wanted clock bytes) = Submit fields wanted clock (f bytes)
mapped f (Receive clock reply buffer bytes) = Receive clock reply buffer (f bytes)
mapped f (Poll clock output) = Poll clock output
