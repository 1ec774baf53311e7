-- `texts::put_bytes` meets its contract. The invariant: what was put, with the pairs of the rest, is the whole.
use Prim.Native.Nat.{◌+◌, ◌*◌, ◌≤◌}
use mathlib.Core.List.{◌++◌}
use mathlib.Core.Path.{◌≡◌}
use lib.ListN.{length}
use Rattle.std.specs.Slice.Iter.{chunks_rest, chunks_size}
use Rattle.texts.specs.Text.{pairs, part_length}
use Rattle.texts.proofs.put_bytes.Given as goal

abbrev pub invariant-loop-part : goal.invariant-loop-part
invariant-loop-part g l =
    let it = l.part-iterator in
    (chunks_size it ≡ part_length)
    × (length (g.R.Room.text l.out) + 2 * length (chunks_rest it) ≤ length (g.R.Room.text l.initial.out) + 2 * length l.shown)
    × (g.R.Room.text l.out ++ pairs (chunks_rest it) ≡ g.R.Room.text l.initial.out ++ pairs l.shown)
    × (g.R.Room.most l.out ≡ g.R.Room.most l.initial.out)
    × (g.R.Room.lent l.out ≡ g.R.Room.lent l.initial.out)
