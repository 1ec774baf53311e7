-- `host_acting::act` meets its contract: the bytes are settled, and the change is carried out.
use Rattle.host_acting.proofs.Acting.{Settled, acted}
use Rattle.host_acting.proofs.act.Goals as goal

pub returns : goal.returns
returns c first new words payload reply buffer decides size =
    let a = c.args in
    let lent = c.unwrap-store.result.now in
    let same = (rw c.unwrap-store.ensures at c.as_mut_array.ensures.cases).same in
    let settled = c.settle_in-held in
    let before = c.live-before in
    let after = c.carry_out-live in
    let settles : Settled a.decision settled.result lent settled.new.store =
    record { counts = settled.ensures.0; stands = settled.ensures.1; rooms = settled.ensures.2 } in
    acted a.e a.clock a.decision a.verdict c.ending_of-ending.result before.result.requests after.result.requests settled.result
    a.replied first new lent settled.new.store _ words payload reply buffer before.ensures (rw same decides) size settles
    c.ending_of-ending.ensures after.ensures
