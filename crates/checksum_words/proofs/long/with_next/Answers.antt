-- `checksum::long::with_next` meets its contract: what the first word adds to the others are itself and the forms `to_second` and
-- `to_third`. Assumes nothing.
use borrow.Author.Rules.{rules}
use Rattle.checksum_words.proofs.Steps.{four_step}
use Rattle.checksum_words.proofs.long.with_next.Goals as goal

pub returns : goal.returns
returns c =
    let q = c.args in
    four_step q.four.a q.four.b q.four.c q.four.d q.word
    (search rules) (search rules) (search rules) (search rules) (search rules)
