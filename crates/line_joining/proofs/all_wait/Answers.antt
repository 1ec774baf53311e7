-- `line_joining::all_wait` meets its contract: the kept bytes and the new ones stand at the front.
use Prim.Native.Nat.{ℕ, ◌+◌, ◌≤◌}
use mathlib.Core.List.{List, ◌++◌}
use mathlib.Core.Path.{◌≡◌, ◌∙◌}
use native.Mathlib.Omega.{arith}
use lib.ListN.{length, take, drop, length-append}
use Rattle.std.specs.Prelude.{None}
use Rattle.message.specs.Items.{undecided, scan}
use Rattle.message.specs.Writing.{placed}
use Rattle.message.proofs.Buffer.{through_placed}
use Rattle.line.specs.Promises.{Decides}
use Rattle.line.specs.Receiving.{held_max}
use Rattle.line.specs.declared.Decision.{Decision}
use Rattle.line.proofs.Gives.{gives_more}
use Rattle.line.proofs.Moving.{moved, length_part, length_moved, front_moved}
use Rattle.line_joining.proofs.all_wait.Goals as goal

waits : (d : Decision) (from kept : ℕ) (array new x exit : List ℕ) → length array ≡ held_max → from + kept ≤ held_max
    → kept + length new ≤ held_max → scan (take kept (drop from array) ++ new) ≡ undecided 0
    → (d.answer ≡ None) × (d.taken ≡ length new) × (d.start ≡ 0) × (d.count ≡ kept + length new)
    → x ≡ moved from kept array → exit ≡ placed kept new x → Decides d (take kept (drop from array)) new exit
waits d from kept array new x exit size within fits none said one two =
    let held = take kept (drop from array) in
    let count : length held ≡ kept = length_part from kept array (rw size within) in
    let same : length x ≡ held_max = rw one (length_moved from kept array (rw size within) ∙ size) in
    let front : take kept x ≡ held = rw one (front_moved from kept array (rw size within)) in
    let sum : length (held ++ new) ≡ kept + length new = length-append held new ∙ rw count in
    gives_more d held new exit {e = 0} none (said.0, said.1, said.2, rw sum said.3)
    (rw (sum, two) (through_placed kept new x (omega arith) ∙ rw front))

pub returns : goal.returns
returns c =
    let p = c.requires in
    let a = c.args in
    waits _ a.held.from a.held.count a.array.now a.new.now _ _ (omega arith) (omega arith) p.0 p.1 c.all_held.ensures
    c.move_to_front.ensures c.put_at.ensures
