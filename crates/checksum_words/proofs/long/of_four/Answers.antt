-- `checksum::long::of_four` meets its contract: the third word and the fourth, each behind the two that leave what those before it
-- leave. Assumes nothing.
use mathlib.Core.Path.{◌∙◌}
use borrow.Author.Rules.{rules}
use Rattle.checksum_words.specs.Remainders.{two_words}
use Rattle.checksum_words.proofs.Remainders.{same_behind}
use Rattle.checksum_words.proofs.long.of_four.Goals as goal

pub returns : goal.returns
returns c =
    let four = c.args.four in
    let two = c.with_word-two.result in
    c.of_two.ensures
    ∙ c.with_word-last.ensures
    ∙ same_behind 64 128 192 (two_words two.high two.low) (two_words (two_words four.a four.b) four.c) four.d (search rules)
    c.with_word-two.ensures
