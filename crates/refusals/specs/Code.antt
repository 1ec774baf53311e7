-- What the checks of the calls come to, in the ledger's terms. What the calls promise does not cite these.
use Rattle.std.specs.Prelude.{ℕ, List, ◌∷◌, ltb, ⊤, Result, Ok, Err}
use Rattle.std.proofs.Math.Option.{Option, none, some}
use Rattle.ledger.specs.Promises.{number_of}
use Rattle.ledger.specs.Refusals.{Line, line}
use Rattle.ledger.specs.declared.Refusal.{Refusal}
use Rattle.endpoint.specs.Malformed.{malformed}
use Rattle.endpoint.specs.declared.Endpoint.{Endpoint}

-- what the table says
abbrev pub check_of : Result ⊤ Refusal → Option ℕ
check_of (Ok done) = none
check_of (Err r) = some (number_of r)

-- the lines of every call with a clock, before its own
abbrev pub with_endpoint : Endpoint → (clock : ℕ) → List Line → List Line
with_endpoint e clock own = line 1 (malformed e) ∷ line 2 (ltb clock e.clock) ∷ own
