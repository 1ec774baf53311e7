-- `host_submitting::accept` meets its contract: the ID is the ledger's, and the request joins.
use mathlib.Core.Path.{◌∙◌}
use Rattle.host_submitting.proofs.Joining.{joined}
use Rattle.host_submitting.proofs.accept.Goals as goal

pub returns : goal.returns
returns c =
    let a = c.args in
    joined a.accepted a.fields a.wanted a.store.now a.«data».now c.in_use.result.now c.from-reserved.result
    c.live.result.requests c.in_use.ensures (c.from-reserved.ensures ∙ c.reserved.ensures) c.live.ensures c.first_free-id.result c.id_after-next.result
    c.joined-live.result.requests c.joined-live.new.store c.first_free-id.ensures c.joined-live.ensures c.id_after-next.ensures
