-- `script_bytes::decode` meets its contract. The invariant: the bytes so far, with those of the digits left, are those of the whole.
use mathlib.Core.Path.{ap, ◌∙◌}
use native.Mathlib.Omega.{arith}
use lib.ListN.{length, length-append, length-set}
use Rattle.script_bytes.proofs.Digits.{bytes_step}
use Rattle.script_bytes.proofs.decode.Goals as goal

pub loop-i-preserved : goal.loop-i-preserved
loop-i-preserved c =
    let loop = c.loop-i in
    let next = c.in-Some.ensures.steps in
    let fewer = ap length next.0.1.0 ∙ length-append c.in-Some.pair.now _ in
    let step = bytes_step loop.i-iterator.count _ _ c.in-Some.pair.now _ _ _ loop.bytes (omega arith) (omega arith) (omega arith) next.0.1.0
    c.in-Some-Some.ensures.value c.in-Some-Some.ensures'.value loop.invariant.3 in
    rw (next.2, next.1) (simp length-set (omega arith), next.0.0 ∙ loop.invariant.1, omega (arith, fewer), step)
