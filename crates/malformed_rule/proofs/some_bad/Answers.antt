-- `malformed_rule::some_bad` meets its contract: some row is bad, or one behind it has its ID.
use Rattle.std.proofs.Common.{rules, tests, ◌∙◌}
use Rattle.std.proofs.lemmas.Iterator.{YieldsList-from_slice}
use Rattle.std.proofs.lemmas.Iterator.Consumers.{YieldsList-from_enumerate}
use Rattle.std.proofs.lemmas.Iterator.Search.{any_from_yields_List}
use Rattle.malformed_rule.proofs.Scans.{bad_at, bad_any}
use Rattle.malformed_rule.proofs.some_bad.Goals as goal

pub returns : goal.returns
returns c =
    let a = c.args in
    any_from_yields_List (bad_at a.reserved a.clock a.rows.now) _ _ c.any.result c.any.ensures.ran
    (YieldsList-from_enumerate (YieldsList-from_slice a.rows.now (cc)) (cc))
    (λ x b q k. search (rules, tests))
    ∙ bad_any a.reserved a.clock a.rows.now
