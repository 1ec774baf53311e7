-- `line_joining::whole_message` meets its contract: the message behind its SYN stands at the front, and its checksum decides.
use mathlib.Core.Path.{refl}
use native.Mathlib.Omega.{arith}
use lib.Seq.{length-take-le}
use Rattle.line.proofs.Whole.{waits_for, gives_message, gives_damaged}
use Rattle.line_joining.proofs.whole_message.Goals as goal

pub append_behind_syn-requires : goal.append_behind_syn-requires
append_behind_syn-requires c =
    let (long, none, is, sum, enough) = c.requires in
    let a = c.args in
    let w = waits_for a.held a.array.now a.new.now (omega arith) long none in
    rw (length-take-le a.need a.new.now enough) (omega (arith, w, is, sum))

pub returns-then-payload_is_sound : goal.returns-then-payload_is_sound
returns-then-payload_is_sound c =
    let (long, none, is, sum, enough) = c.requires in
    let a = c.args in
    gives_message a.held a.array.now a.new.now (omega arith) long none a.len a.need is sum enough _ (omega arith) c.append_behind_syn.ensures _ _ _ _
    c.payload_is_sound.ensures c.if-payload_is_sound.true refl refl refl refl refl refl refl

pub returns : goal.returns
returns c =
    let (long, none, is, sum, enough) = c.requires in
    let a = c.args in
    gives_damaged a.held a.array.now a.new.now (omega arith) long none a.len a.need is sum enough _ (omega arith) c.append_behind_syn.ensures _ _
    c.payload_is_sound.ensures c.if-payload_is_sound.false refl refl refl (omega arith)
