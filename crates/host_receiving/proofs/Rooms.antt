-- The buffers of a receive that the table lets through have room.
use Prim.Native.Nat.{ℕ, ◌≤◌}
use mathlib.Core.Bool.{◌||◌}
use mathlib.Core.List.{[], ◌∷◌}
use mathlib.Core.Option.{none}
use mathlib.Core.Path.{◌≡◌}
use lib.Dec.{ltb}
use borrow.Author.Tests.{ltb-false}
use Rattle.message.specs.Bytes.{total}
use Rattle.command.specs.Payload.{max_data}
use Rattle.ledger.specs.Refusals.{line, first_of}
use Rattle.endpoint.specs.declared.Endpoint.{Endpoint}
use Rattle.endpoint.proofs.Order.{neither}
use Rattle.refusals.specs.Code.{with_endpoint}
use Rattle.refusals.proofs.Table.{passed, own_passed}

pub roomy : (e : Endpoint) (clock x y : ℕ) → first_of (with_endpoint e clock (line 6 (ltb x (total 0) || ltb y max_data) ∷ [])) ≡ none
    → (total 0 ≤ x) × (max_data ≤ y)
roomy e clock x y h =
    let own = line 6 (ltb x (total 0) || ltb y max_data) ∷ [] in
    let rest = own_passed 6 (ltb x (total 0) || ltb y max_data) [] (passed e clock own h).rest in
    let both = neither (ltb x (total 0)) (ltb y max_data) rest.0 in
    (ltb-false x (total 0) both.0, ltb-false y max_data both.1)
