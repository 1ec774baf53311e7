-- `checksum_words::number::behind` meets its contract: a turn for each byte.
use mathlib.Core.Path.{refl, sym, ◌∙◌}
use native.Mathlib.Omega.{arith}
use Rattle.checksum_words.proofs.Behind.{has_room, room, room_next, byte_next, none_left}
use Rattle.checksum_words.proofs.number.behind.Goals as goal

pub loop-byte-init : goal.loop-byte-init
loop-byte-init c = (refl, has_room 32 c.args.first c.args.bytes.now (omega arith) (omega arith))

pub overflow_mul-number : goal.overflow_mul-number
overflow_mul-number c = let l = c.loop-byte in omega (arith, room l.number c.args.bytes.now l.byte-index (omega arith) l.invariant.1)

pub overflow_add-number : goal.overflow_add-number
overflow_add-number c =
    let l = c.loop-byte in
    omega (arith, room l.number c.args.bytes.now l.byte-index (omega arith) l.invariant.1)

pub loop-byte-preserved : goal.loop-byte-preserved
loop-byte-preserved c =
    let l = c.loop-byte in
    let s = c.args.bytes.now in (
      byte_next l.number s l.byte-index (omega arith) (omega arith) ∙ l.invariant.0,
      room_next l.number s l.byte-index (omega arith) (omega arith) l.invariant.1,
    )

pub returns : goal.returns
returns c = let l = c.loop-byte in sym (none_left l.number c.args.bytes.now l.byte-index (omega arith)) ∙ l.invariant.0
