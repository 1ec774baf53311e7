-- The tests of the malformed rule in the order in which the code makes them, one request after the other.
use Rattle.std.specs.Prelude.{ℕ, Bool, false, not, ◌||◌, List, [], ◌∷◌, ltb}
use Rattle.command.specs.Payload.{max_data}
use Rattle.link.specs.Frames.{max_transmissions}
use Rattle.ledger.specs.Parts as ledger
use Rattle.ledger.specs.Parts.{queued, in_flight, waiting}
use Rattle.ledger.specs.Submitting.{is_live}
use Rattle.ledger.specs.Refusals.{is_outside}
use Rattle.endpoint.specs.Endpoint.{state_of}
use Rattle.endpoint.specs.Malformed.{bare_of}
use Rattle.endpoint.specs.declared.Request.{Request}

-- a state that breaks the rule
abbrev pub bad_state : (clock : ℕ) (wanted : Bool) → ledger.State → Bool
bad_state clock wanted queued = false
bad_state clock wanted (in_flight f) =
    (ltb f.transmissions 1 || ltb max_transmissions f.transmissions) || ltb clock f.sent
bad_state clock wanted (waiting since) = not wanted || ltb clock since

-- a request that breaks it by itself
unfoldable pub bad_request : (reserved clock : ℕ) → Request → Bool
bad_request reserved clock q =
    is_outside reserved q.id.0 || (ltb max_data q.len || bad_state clock q.wanted (state_of q.state))

-- some request does, or has the ID of a later one
unfoldable pub some_bad : (reserved clock : ℕ) → List Request → Bool
some_bad reserved clock [] = false
some_bad reserved clock (q ∷ qs) =
    bad_request reserved clock q || (is_live q.id.0 (bare_of qs) || some_bad reserved clock qs)
