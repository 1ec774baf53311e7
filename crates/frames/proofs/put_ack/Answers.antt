-- `frames::put_ack` meets its contract: the header of an ACK may be written, and there is room.
use mathlib.Core.List.{[]}
use native.Mathlib.Omega.{arith}
use Rattle.message.specs.Bytes.{ack}
use Rattle.frames.proofs.Putting.{ack_writable, writes, put_message}
use Rattle.frames.proofs.put_ack.Goals as goal

pub unwrap-requires : goal.unwrap-requires
unwrap-requires c =
    let a = c.args in
    rw (writes c.write.result ack a.seq.0 [] a.reply.now _ (ack_writable a.seq.0) (omega arith) c.write.ensures)

pub returns : goal.returns
returns c =
    let a = c.args in
    put_message _ _ ack a.seq.0 [] a.reply.now _ (ack_writable a.seq.0) (omega arith) c.unwrap.ensures c.write.ensures
