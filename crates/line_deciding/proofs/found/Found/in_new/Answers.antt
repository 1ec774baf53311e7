-- `line_deciding::found::Found::in_new` meets its contract: what follows the item is put at the front.
use Prim.Native.Nat.{◌+◌, ◌-◌, ◌≤◌}
use mathlib.Core.Path.{refl, ap, ◌∙◌}
use native.Mathlib.Omega.{arith}
use lib.ListN.{length, take, drop, length-take}
use Rattle.line.proofs.Gives.{follows, gives_new, front_placed}
use Rattle.line_deciding.proofs.found.Found.in_new.Goals as goal

pub returns : goal.returns
returns c =
    let a = c.args in
    let k = c.deciding_length-end.result in
    let last = c.deciding_length-end.ensures.0 in
    let f = follows a.self.first.item a.self.dropped a.self.first.removed k a.new.now c.requires last in
    let small : length f ≤ length a.array.now =
    rw (length-take (k - (a.self.dropped + a.self.first.removed)) (drop (a.self.dropped + a.self.first.removed) a.new.now)) (omega arith) in
    gives_new a.self.first.item a.self.dropped a.self.first.removed k a.new.now c.requires last _ _ (refl, refl, refl, refl, refl)
    (ap (take (length f)) c.put_at.ensures ∙ front_placed f a.array.now small)
