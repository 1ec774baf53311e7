-- `frames::put_nak` meets its contract: the header of a NAK with SEQ 0 may be written, and there is room.
use mathlib.Core.List.{[]}
use native.Mathlib.Omega.{arith}
use Rattle.message.specs.Bytes.{nak}
use Rattle.frames.proofs.Putting.{nak_writable, writes, put_message}
use Rattle.frames.proofs.put_nak.Goals as goal

pub unwrap-requires : goal.unwrap-requires
unwrap-requires c =
    let a = c.args in
    rw (writes c.write.result nak 0 [] a.reply.now _ nak_writable (omega arith) c.write.ensures)

pub returns : goal.returns
returns c =
    let a = c.args in
    put_message _ _ nak 0 [] a.reply.now _ nak_writable (omega arith) c.unwrap.ensures c.write.ensures
