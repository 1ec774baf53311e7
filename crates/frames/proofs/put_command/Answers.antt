-- `frames::put_command` meets its contract: the payload's loan, then the message writer around what stands there.
use native.Mathlib.Omega.{arith}
use Rattle.command.specs.Promises.{fields_of}
use Rattle.frames.proofs.Putting.{command_writes, put_command}
use Rattle.frames.proofs.put_command.Goals as goal

pub unwrap-requires : goal.unwrap-requires
unwrap-requires c =
    let a = c.args in
    rw (command_writes c.write_around.result _ a.seq.0 a.head.id.0 (fields_of a.head.fields) a.«data».now a.output.now _ _ (omega arith) (omega arith) c.write-len.ensures c.write_around.ensures)

pub returns : goal.returns
returns c =
    let a = c.args in
    put_command _ _ a.seq.0 a.head.id.0 (fields_of a.head.fields) a.«data».now a.output.now _ _ (omega arith) (omega arith) c.write-len.ensures c.write_around.ensures c.unwrap.ensures
