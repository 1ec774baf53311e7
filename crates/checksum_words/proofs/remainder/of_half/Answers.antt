-- `checksum::remainder::of_half` meets its contract: its shifts are the form `of_half`. Assumes nothing.
use borrow.Author.Rules.{rules}
use Rattle.checksum_words.proofs.Forms.{half_law}
use Rattle.checksum_words.proofs.remainder.of_half.Goals as goal

pub returns : goal.returns
returns c = half_law c.args.a (search rules)
