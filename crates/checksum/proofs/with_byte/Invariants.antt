-- `checksum::with_byte` meets its contract. The loop's invariant: the register, with the bits at the places that are left, gives the
-- register after all.
use mathlib.Core.Path.{◌≡◌}
use Rattle.checksum.specs.Checksum.{with_bits, bits_of}
use Rattle.checksum.proofs.Turns.{low_bits}
use Rattle.checksum.proofs.with_byte.Given as goal

abbrev pub invariant-loop-place : goal.invariant-loop-place
invariant-loop-place l = with_bits l.register (low_bits l.byte l.place) ≡ with_bits l.fn.register (bits_of l.byte)
