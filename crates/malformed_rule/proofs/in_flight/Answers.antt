-- `malformed_rule::in_flight` meets its contract: the rows that were counted are those in flight.
use Rattle.std.proofs.Common.{rules, tests, ◌∙◌}
use Rattle.std.proofs.lemmas.Iterator.{YieldsList-from_slice}
use Rattle.std.proofs.lemmas.Iterator.Consumers.{YieldsList-from_filter, count_from_yields_List}
use Rattle.malformed_rule.proofs.Scans.{flies, flights_filter}
use Rattle.malformed_rule.proofs.in_flight.Goals as goal

pub returns : goal.returns
returns c =
    count_from_yields_List c.filter.result c.count.result c.count.ensures.ran
    (YieldsList-from_filter _ (λ q. flies q.state) (YieldsList-from_slice c.args.rows.now cc) c.filter.ensures.closure (λ x b q k. search (rules, tests)))
    ∙ flights_filter c.args.rows.now
