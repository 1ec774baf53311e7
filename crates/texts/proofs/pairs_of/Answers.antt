-- `texts::pairs_of` meets its contract: a turn for each byte, and at the end none is left.
use native.Mathlib.Omega.{arith}
use lib.ListN.{length-set}
use Rattle.texts.proofs.Putting.{pairs_set_step, pairs_set_end}
use Rattle.texts.proofs.pairs_of.Goals as goal

pub loop-i-preserved : goal.loop-i-preserved
loop-i-preserved c =
    let loop = c.loop-i in
    let step = pairs_set_step c.args.part.now loop.digits loop.i _ (omega arith) (omega arith) loop.invariant.1 in
    (simp length-set (omega arith), rw (c.digit.ensures, c.digit-in-loop-i.ensures) step)

pub returns : goal.returns
returns c = pairs_set_end c.args.part.now c.loop-i.digits c.loop-i.i (omega arith) c.loop-i.invariant.1
