-- `checksum::words::with_word` meets its contract: what the first word adds to the others are the forms `to_high` and `to_low`.
-- Assumes nothing.
use borrow.Author.Rules.{rules}
use Rattle.checksum_words.proofs.Steps.{two_step}
use Rattle.checksum_words.proofs.words.with_word.Goals as goal

pub returns : goal.returns
returns c =
    two_step c.args.two.high c.args.two.low c.args.word
    (search rules) (search rules) (search rules)
