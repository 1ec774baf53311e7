-- `host_acting::settle_in` meets its contract: the front of the store is lent.
use mathlib.Core.Path.{◌≡◌, ◌∙◌}
use native.Mathlib.Omega.{arith}
use lib.ListN.{length}
use Rattle.line.specs.Receiving.{held_max}
use Rattle.host_answers.proofs.Held.{length_front, first_lent, rest_lent}
use Rattle.host_acting.proofs.settle_in.Goals as goal

pub returns : goal.returns
returns c =
    let settled = c.settle.ensures in
    let size : length c.settle.new.array ≡ held_max =
    omega (arith, length_front c.args.store.now c.told-store) in
    let first = first_lent _ c.args.store.now size c.settle.result (omega arith) in
    (settled.0, first ∙ settled.1, rest_lent c.settle.new.array c.args.store.now size)
