-- `texts::pairs_of` meets its contract. The invariant: the digits so far, with the pairs of the rest, are those of the whole part.
use Prim.Native.Nat.{◌*◌}
use mathlib.Core.List.{◌++◌}
use mathlib.Core.Path.{◌≡◌}
use lib.ListN.{length, take, drop}
use Rattle.texts.specs.Text.{pairs, part_length}
use Rattle.texts.proofs.pairs_of.Given as goal

abbrev pub invariant-loop-i : goal.invariant-loop-i
invariant-loop-i l =
    (length l.digits ≡ 2 * part_length)
    × (take (2 * l.i) l.digits ++ pairs (drop l.i l.part) ≡ pairs l.part)
