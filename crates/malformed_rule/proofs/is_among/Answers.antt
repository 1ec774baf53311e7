-- `malformed_rule::is_among` meets its contract: some row has the ID.
use Rattle.std.proofs.Common.{rules, tests, ◌∙◌}
use Rattle.std.proofs.lemmas.Iterator.{YieldsList-from_slice}
use Rattle.std.proofs.lemmas.Iterator.Search.{any_from_yields_List}
use Rattle.malformed_rule.proofs.Scans.{has, live_any}
use Rattle.malformed_rule.proofs.is_among.Goals as goal

pub returns : goal.returns
returns c =
    any_from_yields_List (has c.args.id.0) _ _ c.any.result c.any.ensures.ran (YieldsList-from_slice _ c.iter.ensures.rest)
    (λ x b q k. search (rules, tests))
    ∙ live_any c.args.id.0 c.args.rows.now
