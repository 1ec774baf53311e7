-- `host_deliveries::ending_of` meets its contract: the request in the row that an ending names.
use Rattle.std.proofs.Common.{rules}
use Prim.Native.Nat.{ℕ, ◌≤◌, ◌<◌}
use mathlib.Core.List.{List}
use mathlib.Core.Path.{◌≡◌}
use native.Mathlib.Omega.{arith}
use lib.ListN.{length, get_or}
use Rattle.ledger.specs.Parts.{live_max}
use Rattle.endpoint.specs.Endpoint.{rows_of, live_of}
use Rattle.endpoint.specs.Places.{at}
use Rattle.endpoint.specs.declared.Requests.{Requests}
use Rattle.endpoint.proofs.Rows.{blank_row, length_rows, rows_at}
use Rattle.endpoint.proofs.Listed.{requests_at}
use Rattle.host_deliveries.proofs.ending_of.Goals as goal

-- the ID of the live request in a row
id_at : (live : Requests) → length live.rows ≡ live_max → live.count ≤ live_max → (store : List ℕ) (i : ℕ) → i < live.count
    → (at i (live_of live store)).id ≡ (get_or live.rows i blank_row).id.0
id_at live three few store i less =
    let count = length_rows live three few in
    rw (requests_at 0 i (rows_of live) store (omega arith), rows_at live three few i less)

pub returns : goal.returns
returns c store = let at-the-row = id_at c.args.live c.well_formed.0.1.1.0.1.0.1 c.requires.0 store in search rules
