-- `checksum_words::words::after` meets its contract: a turn for each word, and at the end no byte is left.
use Prim.Native.Nat.{◌*◌}
use mathlib.Core.Path.{◌∙◌}
use native.Mathlib.Omega.{arith}
use lib.ListN.{length-drop, drop}
use Rattle.checksum_words.specs.Remainders.{remainder, two_words}
use Rattle.checksum_words.proofs.Loops.{next_turn, at_end}
use Rattle.checksum_words.proofs.words.after.Goals as goal

pub loop-word-preserved : goal.loop-word-preserved
loop-word-preserved c =
    let turn = c.loop-word in
    let words = c.as_chunks.ensures in
    next_turn 128 (two_words turn.two.high turn.two.low) (two_words c.with_word-two.result.high c.with_word-two.result.low)
    c.word.result turn.word-index c.args.bytes.now c.as_chunks.result.0.now words.front (omega (arith, c.loop-word-test.true, words.front_len))
    c.word.ensures c.with_word-two.ensures
    ∙ turn.invariant

pub returns : goal.returns
returns c =
    let end = c.loop-word in
    at_end (remainder 128 (two_words end.two.high end.two.low)) c.of_two.result (drop (8 * end.word-index) c.args.bytes.now)
    (simp length-drop (omega (arith, c.loop-word-test.false, c.as_chunks.ensures.front_len, c.requires))) c.of_two.ensures
    ∙ end.invariant
