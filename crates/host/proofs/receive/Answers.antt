-- `host::receive` meets its contract: by the promise of the crate below the call extends every list.
use Rattle.host_claims.proofs.Laws.{extends}
use Rattle.host.proofs.receive.Goals as goal

pub returns-clause-list : goal.returns-clause-list
returns-clause-list c = extends _ _ _ _ c.receive_in.ensures
