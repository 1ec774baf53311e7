-- `live_search::flying` meets its contract: no row before the one that is found is in flight.
use Rattle.std.proofs.Common.{rules, tests}
use Rattle.live_search.proofs.Found.{flight_law}
use Rattle.live_search.proofs.flying.Goals as goal

pub returns : goal.returns
returns c = flight_law c.find_map.result c.args.rows.now (search (rules, tests))
