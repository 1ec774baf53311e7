-- `checksum::remainder::of_two` meets its contract: what the first word adds to the second is the form `to_one`. Assumes nothing.
use mathlib.Core.Path.{◌∙◌}
use borrow.Author.Rules.{rules}
use Rattle.checksum_words.proofs.Steps.{one_step}
use Rattle.checksum_words.proofs.remainder.of_two.Goals as goal

pub returns : goal.returns
returns c = c.of_word.ensures ∙ one_step c.args.high c.args.low (search rules) (search rules)
