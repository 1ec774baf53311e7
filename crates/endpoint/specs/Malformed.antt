-- Document 01, "Malformed means one of": the rule for an endpoint, in its order. The tests of one request are the ledger's.
use Rattle.std.specs.Prelude.{Bool, false, ◌||◌, List, [], ◌∷◌, map, ltb}
use Rattle.line.specs.Receiving.{held_max}
use Rattle.command.specs.Payload.{max_data}
use Rattle.ledger.specs.Parts as ledger
use Rattle.ledger.specs.Parts.{reserved_max, live_max}
use Rattle.ledger.specs.Refusals.{some_of, is_outside, two_equal, flights, wrongly_often, waits_for_nothing, is_late}
use Rattle.endpoint.specs.Endpoint.{request_of, rows_of}
use Rattle.endpoint.specs.declared.Request.{Request}
use Rattle.endpoint.specs.declared.Endpoint.{Endpoint}

-- the live requests without their data, which no other test looks at
abbrev pub bare_of : List Request → List ledger.Request
bare_of rows = map (λ q. request_of q []) rows

-- "data over 248": some row says so
unfoldable pub too_long : List Request → Bool
too_long [] = false
too_long (q ∷ qs) = ltb max_data q.len || too_long qs

-- the rule. The ledger has it over lists (`malformed`, `ledger/specs/Refusals.antt`): the two agree by the laws `ledger_sound` and
-- `endpoint_sound` (`refinement/proofs/Sound.antt`).
-- "R over 255; more than three live; a live or next ID outside R + 1 to 65535; two equal live IDs; two in flight; transmissions not
-- 1 to 3; data over 248; a waiting request that wants no response; a time later than the clock; more than 265 held"
unfoldable pub malformed : Endpoint → Bool
malformed e =
    let rows = rows_of e.live in
    let live = bare_of rows in
    ltb reserved_max e.reserved
    || (ltb live_max e.live.count
    || ((some_of (λ q. is_outside e.reserved q.id) live || is_outside e.reserved e.next.0)
    || (two_equal live
    || (ltb 1 (flights live)
    || (some_of (λ q. wrongly_often q.state) live
    || (too_long rows
    || (some_of (λ q. waits_for_nothing q.wanted q.state) live
    || (some_of (λ q. is_late e.clock q.state) live
    || ltb held_max e.held))))))))
