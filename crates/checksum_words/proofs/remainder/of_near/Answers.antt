-- `checksum::remainder::of_near` meets its contract: the product is the form `to_one_near`. Assumes nothing.
use mathlib.Core.Path.{◌∙◌}
use borrow.Author.Rules.{rules}
use Rattle.checksum_words.proofs.Steps.{near_step}
use Rattle.checksum_words.proofs.remainder.of_near.Goals as goal

pub returns : goal.returns
returns c = c.of_word.ensures ∙ near_step c.args.high c.args.low (search rules) (search rules)
