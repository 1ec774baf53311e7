-- `malformed_rule::is_malformed` meets its contract: the tests are those of `Rule.antt`.
use Rattle.std.proofs.Common.{◌≡◌, sym, ap, ◌∙◌, Bool, rules}
use mathlib.Core.Bool.{◌||◌}
use Rattle.endpoint.specs.Code.{some_bad}
use Rattle.endpoint.specs.Endpoint.{rows_of}
use Rattle.malformed_rule.proofs.Rule.{early, by_code}
use Rattle.malformed_rule.proofs.is_malformed.Goals as goal

pub returns-then-in_flight-gt1 : goal.returns-then-in_flight-gt1
returns-then-in_flight-gt1 c =
    let e = c.args.e in
    let rows = some_bad e.reserved e.clock (rows_of e.live) in
    let told : c.if-e-gt-HELD_MAX.value ≡ early e = search rules in
    c.if-in_flight-gt1.true ∙ (ap (λ (b : Bool). b || rows) (sym c.if-in_flight-gt1.true ∙ told) ∙ by_code e)

pub returns-else-in_flight-gt1 : goal.returns-else-in_flight-gt1
returns-else-in_flight-gt1 c =
    let e = c.args.e in
    let rows = some_bad e.reserved e.clock (rows_of e.live) in
    let told : c.if-e-gt-HELD_MAX.value ≡ early e = search rules in
    c.some_bad.ensures
    ∙ (ap (some_bad e.reserved e.clock) c.in_use-rows.ensures ∙ (ap (λ (b : Bool). b || rows) (sym c.if-in_flight-gt1.false ∙ told) ∙ by_code e))
