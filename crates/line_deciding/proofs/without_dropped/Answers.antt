-- `line_deciding::without_dropped` meets its contract: what is left receives the same, or plays no part.
use Prim.Native.Nat.{◌-◌}
use mathlib.Core.Path.{sym, ◌∙◌}
use native.Mathlib.Omega.{arith}
use lib.ListN.{take, drop}
use Rattle.line.proofs.Dropped.{drops, all_dropped, receives}
use Rattle.line.proofs.Moving.{length_part}
use Rattle.line.proofs.Start.{decides_same, broken}
use Rattle.line_deciding.proofs.without_dropped.Goals as goal
use Rattle.line_deciding.proofs.without_dropped.Goals.{then-kept-eq0-via-then-kept-eq0, then-kept-eq0-via-else-kept-eq0+then-breaks_syn}

pub returns-then-kept-eq0 : goal.returns-then-kept-eq0
returns-then-kept-eq0 c =
    let p = c.requires in
    let a = c.args in
    let le = drops a.count a.dropped a.array.now (omega arith) p.0 p.1 in
    let kept = a.count - a.dropped in
    let held = take kept (drop a.dropped a.array.now) in
    let size = length_part a.dropped kept a.array.now (omega (arith, le)) in
    elim c.then-kept-eq0.branch [
      | then-kept-eq0-via-then-kept-eq0 w ↦
          decides_same (all_dropped a.count a.dropped a.array.now (omega arith) p.0 p.1 a.new.now (omega (arith, le))) c.in_new.ensures
      | then-kept-eq0-via-else-kept-eq0+then-breaks_syn w ↦
          decides_same
          (receives a.count a.dropped a.array.now (omega arith) p.0 p.1 kept (omega (arith, le)) a.new.now
          ∙ broken kept held a.new.now size (sym w.breaks_syn.ensures ∙ w.if-breaks_syn.true))
          c.in_new.ensures
    ]
