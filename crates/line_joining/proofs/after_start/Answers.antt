-- `line_joining::after_start` meets its contract: an item that the header's last bytes decide.
use Prim.Native.Nat.{◌-◌}
use mathlib.Core.Path.{sym, ◌∙◌}
use native.Mathlib.Nat.{add-sub_cancel_left}
use native.Mathlib.Omega.{arith}
use lib.Seq.{length-take-le}
use Rattle.line.proofs.Start.{gives_header}
use Rattle.line_joining.proofs.after_start.Goals as goal

pub returns : goal.returns
returns c =
    let (some, few, none, unbroken) = c.requires in
    let a = c.args in
    let header = rw (add-sub_cancel_left a.held.from a.held.count) at c.join_header-header.ensures in
    let read = rw (c.in-Some.is, header) at c.read.ensures in
    let (answer, takes, start, count, stands) = c.header_item.ensures in
    gives_header a.held a.array.now a.new.now (omega arith) some none (8 - a.held.count) (omega arith) (omega arith) _ c.in-Some.first.item
    c.read.result.dropped c.in-Some.first.removed _ unbroken (sym read) (omega arith) stands
    (answer, takes ∙ length-take-le (8 - a.held.count) a.new.now (omega arith), start, count)
