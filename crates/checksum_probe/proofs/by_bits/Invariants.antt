-- `checksum_probe::by_bits` meets its contract. The loop's invariant: the register, continued over the bytes that are left, gives
-- the checksum of all.
use mathlib.Core.Path.{◌≡◌}
use lib.ListN.{drop}
use Rattle.checksum.specs.Checksum.{checksum_of, checksum_from}
use Rattle.checksum_probe.proofs.by_bits.Given as goal

abbrev pub invariant-loop-byte : goal.invariant-loop-byte
invariant-loop-byte l = checksum_from l.register (drop l.byte-index l.bytes) ≡ checksum_of l.bytes
