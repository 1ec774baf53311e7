-- `checksum::few` meets its contract. Assumes nothing.
use mathlib.Core.Path.{ap, ◌∙◌}
use native.Mathlib.Omega.{arith}
use Rattle.checksum_words.specs.Remainders.{remainder}
use Rattle.checksum_words.proofs.Lengths.{of_none, of_three, of_seven}
use borrow.Author.Rules.{rules}
use Rattle.checksum_words.proofs.few.Goals as goal

pub returns-then-bytes-ge4 : goal.returns-then-bytes-ge4
returns-then-bytes-ge4 c =
    let half = c.half-first in
    of_seven half.result c.of_word.result c.args.bytes.now (search rules) (search rules) half.ensures
    (c.of_word.ensures ∙ ap (remainder 64) c.behind.ensures)

pub returns-then-is_empty : goal.returns-then-is_empty
returns-then-is_empty c = of_none c.args.bytes.now (search rules)

pub returns : goal.returns
returns c = of_three c.of_word-2.result c.args.bytes.now (omega arith) (c.of_word-2.ensures ∙ ap (remainder 64) c.behind-2.ensures)
