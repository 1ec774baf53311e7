-- `live_deadline::time_left` meets its contract: the closure gives the time to each deadline, and the shortest is that to the earliest.
use Rattle.std.proofs.Common.{rules, ◌∙◌}
use Rattle.std.proofs.lemmas.Iterator.{YieldsList-from_slice}
use Rattle.std.proofs.lemmas.Iterator.Consumers.{YieldsList-from_filter_map, min_from_yields_List}
use Rattle.live_deadline.proofs.Shortest.{own_time, as_in_code, as_time, shortest}
use Rattle.live_deadline.proofs.time_left.Goals as goal

pub returns : goal.returns
returns c =
    let clock = c.args.clock in
    let rows = c.in_use.result.now in
    let times = min_from_yields_List c.filter_map.result c.min.result c.min.ensures.ran
    (YieldsList-from_filter_map _ (own_time clock) (YieldsList-from_slice rows (cc)) c.filter_map.ensures.closure
    (λ q r f called. (search rules, as_in_code r _ (search rules)))) in
    rw (← c.in_use.ensures) (as_time c.min.result _ times ∙ shortest clock rows)
