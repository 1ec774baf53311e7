-- `transcript::answers::put_received` meets its contract: a refusal's line.
use mathlib.Core.Path.{sym}
use native.Mathlib.Omega.{arith}
use Rattle.transcript.specs.Lines.{receive_text}
use Rattle.texts.proofs.Putting.{wider}
use Rattle.transcript.proofs.answers.put_received.Goals as goal

pub returns-in-Err-clause-puts : goal.returns-in-Err-clause-puts
unfolding receive_text
returns-in-Err-clause-puts g c = rw (c.in-Err.is, sym c.number.ensures) (wider (omega arith) c.put_named.ensures.puts)
