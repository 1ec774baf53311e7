-- `checksum_words::number::pair` meets its contract: each byte of the array stands behind those before it.
use Prim.Native.Nat.{ℕ}
use native.Mathlib.Omega.{arith}
use Rattle.checksum_words.proofs.Numbers.{one_more, none_at}
use Rattle.checksum_words.proofs.number.pair.Goals as goal

pub returns : goal.returns
returns c =
    let at = c.args.at in
    let s = c.args.bytes.now in
    let step = one_more 2 at s c.unwrap.result.now (omega arith) (λ (i : ℕ). omega (arith, c.type_inv.bytes i)) (rw c.unwrap.ensures at c.first_chunk.ensures.cases).same in
    omega (
      arith,
      c.from_be_bytes.ensures,
      none_at at s,
      step 0 (omega arith),
      step 1 (omega arith),
    )
