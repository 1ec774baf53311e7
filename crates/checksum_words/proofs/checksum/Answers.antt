-- `checksum::checksum` meets its contract, for each length that it tells apart. Assumes nothing.
use mathlib.Core.Path.{refl, ◌∙◌}
use Rattle.checksum_words.proofs.Lengths.{of_first, all_of}
use borrow.Author.Rules.{rules}
use Rattle.checksum_words.proofs.checksum.Goals as goal

pub returns-then-length-eq4 : goal.returns-then-length-eq4
returns-then-length-eq4 c =
    let s = c.args.bytes.now in
    of_first 4 16 c.half.result c.of_half.result s (search rules) refl c.half.ensures c.of_half.ensures ∙ all_of 4 s (search rules)

pub returns-then-length-eq8 : goal.returns-then-length-eq8
returns-then-length-eq8 c =
    let s = c.args.bytes.now in
    of_first 8 48 c.word.result c.of_word.result s (search rules) refl c.word.ensures c.of_word.ensures ∙ all_of 8 s (search rules)
