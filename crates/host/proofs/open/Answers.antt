-- `host::open` meets its contract: what it promises begins a list of calls.
use Rattle.std.proofs.Common.{rules}
use Rattle.host_claims.proofs.Laws.{begins}
use Rattle.host.proofs.Fresh.{promised_refused, promised_accepted}
use Rattle.host.proofs.open.Goals as goal

pub returns-then-reserved-gt-RESERVED_MAX-clause-list : goal.returns-then-reserved-gt-RESERVED_MAX-clause-list
returns-then-reserved-gt-RESERVED_MAX-clause-list c = begins _ _ (search (rules, promised_refused))

pub returns-clause-list : goal.returns-clause-list
returns-clause-list c = begins _ _ (search (rules, promised_accepted))
