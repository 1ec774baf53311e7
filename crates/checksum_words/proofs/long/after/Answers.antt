-- `checksum_words::long::after` meets its contract: a turn for each word, and at the end no byte is left.
use Prim.Native.Nat.{ℕ, ◌*◌}
use mathlib.Core.Path.{ap, ◌∙◌}
use native.Mathlib.Omega.{arith}
use borrow.Author.Rules.{rules}
use lib.ListN.{length-drop, drop}
use Rattle.checksum.specs.Checksum.{checksum_from}
use Rattle.checksum_words.specs.Remainders.{remainder, four_words}
use Rattle.checksum_words.proofs.Loops.{next_turn, at_end, as_four}
use Rattle.checksum_words.proofs.long.after.Goals as goal

pub loop-word-preserved : goal.loop-word-preserved
loop-word-preserved c =
    let turn = c.loop-word in
    let words = c.as_chunks.ensures in
    next_turn 256 (four_words turn.four.a turn.four.b turn.four.c turn.four.d) (four_words c.with_next-four.result.a c.with_next-four.result.b c.with_next-four.result.c c.with_next-four.result.d)
    c.word.result turn.word-index c.args.bytes.now c.as_chunks.result.0.now words.front (omega (arith, c.loop-word-test.true, words.front_len))
    c.word.ensures c.with_next-four.ensures
    ∙ turn.invariant

pub returns : goal.returns
returns c =
    let end = c.loop-word in
    at_end (remainder 256 (four_words end.four.a end.four.b end.four.c end.four.d)) c.of_four.result (drop (8 * end.word-index) c.args.bytes.now)
    (simp length-drop (omega (arith, c.loop-word-test.false, c.as_chunks.ensures.front_len, c.requires))) c.of_four.ensures
    ∙ end.invariant
    ∙ ap (λ (r : ℕ). checksum_from r c.args.bytes.now) (as_four c.args.first.high c.args.first.low (search rules) (search rules))
