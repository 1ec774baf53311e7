-- `line_probe::probe` meets its contract: a call's numbers, or 1 for an array or a count that is no line's.
use Prim.Native.Nat.{ℕ}
use mathlib.Core.Bool.{true, false, and-false}
use mathlib.Core.List.{List}
use mathlib.Core.Path.{◌≡◌}
use native.Mathlib.Omega.{arith}
use lib.Dec.{eqb}
use lib.ListN.{length, take}
use borrow.Author.Tests.{eq-eqb, ne_eqb, le-leb, lt-leb}
use Rattle.line.specs.Promises.{answer_of, Receives}
use Rattle.line.specs.Receiving.{held_max}
use Rattle.line.specs.declared.Received.{Received}
use Rattle.line_probe.specs.Numbers.{Numbers, numbers, numbers_of, usable, Probed}
use Rattle.line_probe.proofs.probe.Goals as goal

-- the number 1, and the array as it was
left : (n : Numbers) (count : ℕ) (new entry : List ℕ) → usable entry count ≡ false → n ≡ numbers 1 0 0 0 0 0
    → Probed n count new entry entry
left n count new entry no_line h = record { answers = rw no_line h; leaves = rw no_line }

-- a call's
called : (n : Numbers) (r : Received) (count : ℕ) (new entry exit : List ℕ) → usable entry count ≡ true
    → n ≡ numbers_of (answer_of r.answer) r.taken r.count → Receives r (take count entry) new exit
    → Probed n count new entry exit
called n r count new entry exit line h p = record {
  answers = rw (line, h, p.answers, p.takes, p.counts);
  leaves = rw (line, ← p.counts) p.holds;
}

pub returns-then-count-gt-HELD_MAX : goal.returns-then-count-gt-HELD_MAX
returns-then-count-gt-HELD_MAX c =
    let a = c.args in
    rw c.in-Some.ensures.cases.same
    (left _ a.count a.new.now a.array.now
    (rw (lt-leb a.count held_max (omega arith), and-false (eqb (length a.array.now) held_max)))
    c.refused-then-count-gt-HELD_MAX.ensures)

pub returns : goal.returns
returns c =
    let a = c.args in
    let whole = c.in-Some.ensures.cases in
    called _ c.receive.result a.count a.new.now a.array.now _
    (rw (eq-eqb (length a.array.now) held_max whole.long, le-leb a.count held_max (omega arith)))
    c.of_received.ensures (rw whole.same at c.receive.ensures)
