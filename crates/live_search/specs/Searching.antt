-- What a search among the live requests looks for, by the ledger's own tests.
use Rattle.std.specs.Prelude as std
use Rattle.std.specs.Prelude.{ℕ, ◌<◌, Bool, true, false, Some, None, IfSome, List, ◌≡◌, length, take}
use Rattle.std.proofs.Math.Option.{Option, none, some}
use Rattle.link.specs.Frames as link
use Rattle.link.specs.Promises.{frame_of}
use Rattle.link.specs.declared.frame.Frame.{Frame}
use Rattle.ledger.specs.Parts as ledger
use Rattle.ledger.specs.Parts.{Search, nobody, somebody, oldest}
use Rattle.ledger.specs.Answers.{Command}
use Rattle.ledger.specs.Receiving.{flies}
use Rattle.endpoint.specs.Endpoint.{requests_from}
use Rattle.endpoint.specs.Places.{at, after}
use Rattle.endpoint.specs.declared.Request.{Request}

-- whether something is shown
abbrev pub is_shown : {A : Type 0} → Option A → Bool
is_shown none = false
is_shown (some what) = true

-- a command with fields and an RQID, of any length
abbrev pub command_with : (fields : Rattle.command.specs.Payload.Fields) (rqid length : ℕ) → Command
command_with fields rqid n = record { fields = fields; rqid = rqid; length = n }

-- what was found in flight, a row and its frame, among live requests
abbrev pub flight_in : std.Option (ℕ × Frame) → List ledger.Request → Search link.Frame
flight_in None live = nobody
flight_in (Some found) live = somebody (take found.0 live) (at found.0 live) (frame_of found.1) (after found.0 live)

-- it is the ledger's oldest in flight, of any requests that stand in these rows, and the row is one of them
pub record IsFlight (found : std.Option (ℕ × Frame)) (rows : List Request) : Type 0 where
  pub finds : (store : List ℕ) → oldest flies (requests_from 0 rows store) ≡ flight_in found (requests_from 0 rows store)
  pub within : IfSome found (λ it. it.0 < length rows)
