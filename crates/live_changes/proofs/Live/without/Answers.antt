-- `live_changes::Live::without` meets its contract: the rows behind one move up, and so do their data.
use Prim.Native.Nat.{◌+◌, ◌-◌}
use mathlib.Core.Path.{◌≡◌}
use native.Mathlib.Numerals.{add-one}
use native.Mathlib.Omega.{arith}
use Rattle.live_changes.proofs.Becoming.{len_at, room_moved, fits_left, left}
use Rattle.live_changes.proofs.Live.without.Goals as goal

pub move_up-requires : goal.move_up-requires
move_up-requires c =
    let live = c.args.self.requests in
    (omega arith, omega (arith, len_at live (omega arith) c.args.self.fits (c.loop-i.i + 1) (omega arith)))

pub loop-i-preserved : goal.loop-i-preserved
loop-i-preserved c =
    let a = c.args in
    let l = c.loop-i in
    room_moved a.self.requests (omega arith) a.self.fits a.row a.store.now l.store _ l.i l.invariant (omega arith) (omega arith)
    c.move_up.ensures

pub invariant_of-result : goal.invariant_of-result
invariant_of-result c =
    let a = c.args in
    record { fits = fits_left a.self.requests (omega arith) a.self.fits _ a.row c.requires (rw (add-one a.row) at c.copy_within.ensures.after) (omega arith) }

pub returns : goal.returns
returns c =
    let a = c.args in
    let l = c.loop-i in
    let all : l.i ≡ a.self.requests.count - 1 = omega arith in
    left a.self.requests (omega arith) a.self.fits _ a.row c.requires (rw (add-one a.row) at c.copy_within.ensures.after) (omega arith)
    a.store.now l.store (rw all at l.invariant)
