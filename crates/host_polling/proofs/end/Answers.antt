-- `host_polling::end` meets its contract: the request leaves, and its ending is answered.
use Rattle.host_sending.proofs.Stepping.{ended}
use Rattle.host_polling.proofs.end.Goals as goal

pub returns : goal.returns
returns c output =
    let a = c.args in
    let before = c.live-before in
    let after = c.without-live in
    ended a.accepted a.store.now a.row a.cause before.result.requests after.result.requests after.new.store output before.ensures
    before.type_inv.1.1.0.1.1.0.1.0.1 c.requires after.ensures
