-- `script_bytes::decode` meets its contract. The invariant: the bytes so far, with those of the digits left, are those of the whole.
use Prim.Native.Nat.{◌+◌, ◌*◌, ◌≤◌}
use mathlib.Core.List.{◌++◌}
use mathlib.Core.Path.{◌≡◌}
use lib.ListN.{length, take}
use Rattle.std.specs.Slice.Iter.{chunks_rest, chunks_size}
use Rattle.script_bytes.specs.Reading.{bytes_of}
use Rattle.script_bytes.proofs.decode.Given as goal

abbrev pub invariant-loop-i : goal.invariant-loop-i
invariant-loop-i l =
    let it = l.i-iterator in
    (it.count ≤ length l.bytes) × (chunks_size it.iter ≡ 2) × (2 * it.count + length (chunks_rest it.iter) ≡ length l.digits)
    × (take it.count l.bytes ++ bytes_of (chunks_rest it.iter) ≡ bytes_of l.digits)
