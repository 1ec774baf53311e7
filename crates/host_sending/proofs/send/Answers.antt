-- `host_sending::send` meets its contract: the frame stands in the output, and its request is in flight.
use Rattle.host_sending.proofs.Stepping.{sent}
use Rattle.host_sending.proofs.send.Goals as goal

pub returns : goal.returns
returns c =
    let a = c.args in
    let same = (rw c.unwrap-store.ensures at c.as_mut_array.ensures.cases).same in
    sent (record { e = a.e; clock = a.clock; sound = c.requires.0 }) a.store.now a.row a.frame a.next c.put_frame-sent.result
    c.live-before.result.requests c.carry_out-live.result.requests c.carry_out-live.new.store a.output.now c.put_frame-sent.new.output
    c.live-before.ensures (rw same at c.put_frame-sent.ensures) (rw same at c.carry_out-live.ensures)
