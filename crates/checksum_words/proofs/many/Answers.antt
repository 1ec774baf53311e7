-- `checksum::many` meets its contract. Assumes nothing.
use Prim.Native.Nat.{ℕ, ◌+◌, ◌-◌, ◌%◌}
use mathlib.Core.Path.{sym, ap, ◌∙◌}
use native.Mathlib.Omega.{arith}
use lib.Bits.{bit_xor, xor_zero_r}
use lib.ListN.{length, get_or}
use Rattle.checksum_words.specs.Remainders.{remainder, two_words}
use Rattle.checksum_words.proofs.Fronts.{start_high}
use Rattle.checksum_words.proofs.Numbers.{byte_at}
use Rattle.checksum_words.proofs.Lengths.{of_front, of_rest}
use borrow.Author.Rules.{rules}
use Rattle.checksum_words.proofs.many.Goals as goal

pub returns-then-bytes-eq9 : goal.returns-then-bytes-eq9
returns-then-bytes-eq9 c =
    let s = c.args.bytes.now in
    of_front 0 (get_or s 0 0) c.word.result c.of_near.result s (omega arith) (search rules)
    (sym (byte_at 0 s (omega arith) (omega (arith, c.type_inv.bytes 0)))) c.word.ensures c.of_near.ensures

-- nothing of the start is left for the word
pub returns-then-bytes-eq10 : goal.returns-then-bytes-eq10
returns-then-bytes-eq10 c =
    let pair = c.pair in
    let word = c.word-then-bytes-eq10 in
    of_front 1 pair.result word.result c.of_near-then-bytes-eq10.result c.args.bytes.now (omega arith) (search rules) pair.ensures word.ensures
    (c.of_near-then-bytes-eq10.ensures ∙ ap (λ (x : ℕ). remainder 128 (two_words (bit_xor pair.result (start_high 1)) x)) (sym (xor_zero_r word.result)))

pub returns-then-bytes-lt-LONG : goal.returns-then-bytes-lt-LONG
returns-then-bytes-lt-LONG c =
    let s = c.args.bytes.now in
    let first = c.front-first in
    of_rest ((length s - 1) % 8 + 9) (remainder 128 (two_words first.result.high first.result.low)) c.after.result s first.ensures c.after.ensures

pub returns : goal.returns
returns c =
    let s = c.args.bytes.now in
    let first = c.front-first in
    of_rest ((length s - 1) % 8 + 9) (remainder 128 (two_words first.result.high first.result.low)) c.after-2.result s first.ensures c.after-2.ensures
