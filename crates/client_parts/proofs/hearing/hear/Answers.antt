-- `client_parts::hearing::hear` meets its contract, by that of receive.
use Rattle.client_parts.proofs.HeardResponse.{hears}
use Rattle.client_parts.proofs.hearing.hear.Goals as goal

pub returns : goal.returns
returns c =
    let acknowledged = c.receive-to_ack.ensures in
    let waits = c.receive-to_first.ensures in
    let answered = c.receive-to_second.ensures in
    hears _ _ _ _ _ _ _ _ _ _ _ _ acknowledged.promise acknowledged.list _ _ _ _ waits.promise waits.list _ _ _ _ answered.promise answered.list
