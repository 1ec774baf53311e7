-- `checksum::remainder::of_word` meets its contract: its shifts are the form `of_word`. Assumes nothing.
use borrow.Author.Rules.{rules}
use Rattle.checksum_words.proofs.Forms.{word_law}
use Rattle.checksum_words.proofs.remainder.of_word.Goals as goal

pub returns : goal.returns
returns c = word_law c.args.a (search rules)
