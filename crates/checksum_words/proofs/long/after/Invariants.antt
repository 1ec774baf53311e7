-- `checksum_words::long::after` meets its contract. The loop's invariant: the register that the four words stand for, continued over the
-- bytes that are left, is the register after all.
use Prim.Native.Nat.{◌*◌}
use mathlib.Core.Path.{◌≡◌}
use lib.ListN.{drop}
use Rattle.checksum.specs.Checksum.{checksum_from}
use Rattle.checksum_words.specs.Remainders.{remainder, four_words}
use Rattle.checksum_words.proofs.long.after.Given as goal

abbrev pub invariant-loop-word : goal.invariant-loop-word
invariant-loop-word l =
    checksum_from (remainder 256 (four_words l.four.a l.four.b l.four.c l.four.d)) (drop (8 * l.word-index) l.fn.bytes) ≡ checksum_from (remainder 256 (four_words l.initial.four.a l.initial.four.b l.initial.four.c l.initial.four.d)) l.fn.bytes
