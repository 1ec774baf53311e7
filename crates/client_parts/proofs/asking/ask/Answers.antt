-- `client_parts::asking::ask` meets its contract, by those of submit and poll.
use Rattle.client_parts.proofs.AskedOnce.{asks}
use Rattle.client_parts.proofs.asking.ask.Goals as goal

pub returns : goal.returns
returns c =
    let submitted = c.submit-submitted.ensures in
    let sent = c.poll-sending.ensures in
    let rested = c.poll-resting.ensures in
    asks _ _ _ _ _ _ _ _ submitted.promise submitted.list _ _ _ sent.promise sent.list _ _ _ rested.promise rested.list
