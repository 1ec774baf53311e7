-- What is made of shifts and sums without carry is linear: one law for all such terms. Assumes nothing.
use mathlib.Core.Path.{refl, sym, ap, ap₂, ◌∙◌}
use lib.Bits.{bit_xor, xor_shr, xor_mod}
use Rattle.checksum_words.proofs.Xor.{xor_four, xor_shl}
use Rattle.checksum_words.proofs.Linear.{Linear}
use Rattle.checksum_words.specs.Forms.{Shifts, same, right, left, low, sum, then, eval}

pub linear : (e : Shifts) → Linear (eval e)
linear same a b = refl
linear (right k) a b = xor_shr a b k
linear (left k) a b = sym (xor_shl a b k)
linear (low k) a b = xor_mod a b k
linear (sum e d) a b =
    ap₂ bit_xor (linear e a b) (linear d a b) ∙ xor_four (eval e a) (eval e b) (eval d a) (eval d b)
linear (then e d) a b = ap (eval d) (linear e a b) ∙ linear d (eval e a) (eval e b)
