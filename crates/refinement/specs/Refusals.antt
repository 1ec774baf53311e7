-- Document 01, "Refusal numbers, tested in this order", on an endpoint and its store.
use Rattle.std.specs.Prelude.{ℕ, List, ◌∷◌, ltb}
use Rattle.std.proofs.Math.Option.{Option}
use Rattle.ledger.specs.Parts.{live_max}
use Rattle.ledger.specs.Calls.{Call, reading_of}
use Rattle.ledger.specs.Refusals.{Line, line, first_of, own_lines}
use Rattle.endpoint.specs.Endpoint.{ledger_of}
use Rattle.endpoint.specs.Malformed.{malformed}
use Rattle.endpoint.specs.declared.Endpoint.{Endpoint}

-- "Refusal numbers, tested in this order": the table's lines, with "endpoint malformed" tested on the endpoint itself. Those of a ledger
-- (`lines`, `ledger/specs/Refusals.antt`) come to the same refusal: law `same_refusal` (`refinement/proofs/Sound.antt`)
abbrev pub lines : Endpoint → (store : List ℕ) → Call → List Line
lines e store c = line 1 (malformed e) ∷ line 2 (ltb (reading_of c) e.clock) ∷ own_lines live_max (ledger_of e store) c

-- "Refusal numbers, tested in this order": the refusal of a call on an endpoint, if any. For one that is not malformed it is the
-- ledger's, `refusal` (`ledger/specs/Refusals.antt`): law `same_refusal` (`refinement/proofs/Sound.antt`)
abbrev pub refusal_of : Endpoint → (store : List ℕ) → Call → Option ℕ
refusal_of e store c = first_of (lines e store c)
