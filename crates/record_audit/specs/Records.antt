-- Document 01, "Request-row audit": "a row of request records, each with an ID".
use Rattle.std.specs.Prelude.{ℕ, List, map}
use Rattle.endpoint.specs.declared.Request.{Request}

-- the IDs of a row
abbrev pub ids_of : List Request → List ℕ
ids_of row = map (λ q. q.id.0) row
