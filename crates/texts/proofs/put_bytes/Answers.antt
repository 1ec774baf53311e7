-- `texts::put_bytes` meets its contract: a turn for each part.
use Prim.Native.Nat.{◌*◌}
use mathlib.Core.Path.{ap, ◌∙◌}
use native.Mathlib.Omega.{arith}
use lib.ListN.{length, take, length-append, length-take}
use Rattle.texts.proofs.Putting.{parts_step}
use Rattle.texts.proofs.put_bytes.Goals as goal

pub loop-part-preserved : goal.loop-part-preserved
loop-part-preserved g c =
    let loop = c.loop-part in
    let part = c.in-Some.part.now in
    let digits = take (2 * length part) c.pairs_of.result in
    let next = c.in-Some.ensures.steps in
    let put = c.put-in-loop-part.ensures.puts in
    let stays = c.put-in-loop-part.ensures.stays in
    let fewer = ap length next.1.0 ∙ length-append part _ in (
      next.0 ∙ loop.invariant.0,
      omega (arith, fewer, put.within, length-take (2 * length part) c.pairs_of.result, loop.invariant.1),
      parts_step part digits _ _ _ (g.R.Room.text loop.out) _ c.pairs_of.ensures put.reads next.1.0 loop.invariant.2,
      stays.0 ∙ loop.invariant.3,
      stays.1 ∙ loop.invariant.4,
    )
