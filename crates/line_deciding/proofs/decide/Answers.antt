-- `line_deciding::decide` meets its contract: an item of the held bytes alone, or what new bytes make of them.
use mathlib.Core.Path.{◌≡◌, sym, ap}
use native.Mathlib.Omega.{arith}
use lib.ListN.{length, take}
use lib.Seq.{length-take-le}
use Rattle.message.proofs.Found.{scan_within}
use Rattle.line.specs.Receiving.{decides}
use Rattle.line.proofs.Gives.{gives_item}
use Rattle.line.proofs.Taking.{at_held}
use Rattle.line_deciding.proofs.decide.Goals as goal

pub in_array-requires : goal.in_array-requires
in_array-requires c =
    let a = c.args in
    let held = take a.count a.array.now in
    let h = sym (rw c.in-Some.is at c.read-reading.ensures) in
    (omega (arith, scan_within held h, length-take-le a.count a.array.now (omega arith)), omega arith)

pub returns-clause-decides : goal.returns-clause-decides
returns-clause-decides c =
    let a = c.args in
    let held = take a.count a.array.now in
    let size : length held ≡ a.count = length-take-le a.count a.array.now (omega arith) in
    let h = sym (rw c.in-Some.is at c.read-reading.ensures) in
    gives_item a.array.now held (rw size) c.in_array.result held a.new.now 0 c.in-Some.first.item c.read-reading.result.dropped
    c.in-Some.first.removed
    (at_held held a.new.now (ap decides h)) h (omega (arith, size)) (rw size c.in_array.ensures)
