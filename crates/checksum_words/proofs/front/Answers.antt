-- `checksum::front` meets its contract: the first bytes are taken off a word. Assumes nothing.
use Prim.Native.Nat.{ℕ, ◌-◌, ◌*◌, ◌/◌, ◌^◌}
use mathlib.Core.Path.{ap, ap₂, ◌∙◌}
use lib.Bits.{bit_xor}
use Rattle.checksum.specs.Checksum.{start}
use Rattle.checksum_words.specs.Remainders.{remainder, two_words}
use Rattle.checksum_words.proofs.Fronts.{start_low, front_law, front_by_word}
use borrow.Author.Rules.{rules}
use Rattle.checksum_words.proofs.front.Goals as goal

pub returns : goal.returns
returns c =
    let args = c.args in
    ap₂ (λ (h l : ℕ). remainder 128 (two_words h l))
    (ap (λ (x : ℕ). bit_xor x (start * 2 ^ 48) / 2 ^ (56 - 8 * args.odd)) c.word.ensures ∙ front_by_word args.odd args.bytes.now (search rules) (search rules))
    (ap (λ (x : ℕ). bit_xor x (start_low args.odd)) c.word-2.ensures)
    ∙ front_law args.odd args.bytes.now (search rules) (search rules)
