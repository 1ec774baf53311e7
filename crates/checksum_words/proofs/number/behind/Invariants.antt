-- `checksum_words::number::behind` meets its contract. The loop's invariant: the number so far, with the bytes that are left behind it,
-- is the number of all, and has room for them.
use mathlib.Core.Path.{◌≡◌}
use lib.ListN.{drop}
use Rattle.checksum_words.specs.Remainders.{number_from}
use Rattle.checksum_words.proofs.Behind.{HasRoom}
use Rattle.checksum_words.proofs.number.behind.Given as goal

abbrev pub invariant-loop-byte : goal.invariant-loop-byte
invariant-loop-byte l =
    (number_from l.number (drop l.byte-index l.bytes) ≡ number_from l.first l.bytes) × HasRoom l.number (drop l.byte-index l.bytes)
