-- `client_parts::giving_up::give_up` meets its contract, by that of poll.
use Rattle.client_parts.proofs.NeverHeard.{gives_up}
use Rattle.client_parts.proofs.giving_up.give_up.Goals as goal

pub returns : goal.returns
returns c =
    let second = c.poll-resending.ensures in
    let rests = c.poll-resting.ensures in
    let third = c.poll-sending_last.ensures in
    let calm = c.poll-resting_again.ensures in
    let ended = c.poll-ending.ensures in
    gives_up _ _ _ _ _ _ _ second.promise second.list _ _ _ rests.promise rests.list _ _ _ third.promise third.list _ _ _ calm.promise calm.list _ _ _
    ended.promise ended.list
