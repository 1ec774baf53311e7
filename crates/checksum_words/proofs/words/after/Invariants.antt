-- `checksum_words::words::after` meets its contract. The loop's invariant: the register that the two words stand for, continued over the
-- bytes that are left, is the register after all.
use Prim.Native.Nat.{◌*◌}
use mathlib.Core.Path.{◌≡◌}
use lib.ListN.{drop}
use Rattle.checksum.specs.Checksum.{checksum_from}
use Rattle.checksum_words.specs.Remainders.{remainder, two_words}
use Rattle.checksum_words.proofs.words.after.Given as goal

abbrev pub invariant-loop-word : goal.invariant-loop-word
invariant-loop-word l =
    checksum_from (remainder 128 (two_words l.two.high l.two.low)) (drop (8 * l.word-index) l.fn.bytes) ≡ checksum_from (remainder 128 (two_words l.initial.two.high l.initial.two.low)) l.fn.bytes
