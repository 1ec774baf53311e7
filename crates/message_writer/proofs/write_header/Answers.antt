-- `message_writer::write_header` meets its contract: SYN, the fields after it, and their checksum after them.
use Prim.Native.Nat.{ℕ, ◌≤◌}
use mathlib.Core.List.{List, ◌++◌}
use mathlib.Core.Path.{◌≡◌, ap, ◌∙◌}
use native.Mathlib.Omega.{arith}
use lib.ListN.{length, take, drop}
use lib.Seq.{take_at}
use Rattle.checksum.specs.Checksum.{checksum_of}
use Rattle.message.specs.Writing.{placed}
use Rattle.message.specs.Bytes.{le16, syn, header}
use Rattle.message.proofs.Buffer.{lent_from, given_back, tail, length_placed, lent, lent_front, front, neighbours_front}
use Rattle.message.proofs.Headers.{length_le16, length_fields}
use Rattle.message_writer.proofs.write_header.Goals as goal

-- what is left when the fields were written after SYN
with_fields : (f l copied last : List ℕ) → length f ≡ 4 → 8 ≤ length l → copied ≡ syn ++ drop 2 l
    → last ≡ placed 0 f (lent_from 2 copied) → given_back 2 copied last ≡ placed 0 (syn ++ f) l
with_fields f l copied last four fits copy put =
    let start : copied ≡ placed 0 syn l = copy ∙ front syn l in
    let same : length copied ≡ length l = ap length start ∙ length_placed 0 syn l (omega arith) in
    rw (put, lent_front 2 f copied (omega arith), start) (neighbours_front syn f l (omega arith))

-- the fields stand where the checksum is taken
fields_at : (f l : List ℕ) → length f ≡ 4 → take 4 (drop 2 (placed 0 (syn ++ f) l)) ≡ f
unfolding placed
fields_at f l four = take_at f _ 4 four

-- and when their checksum was written after them
with_checksum : (f l m last : List ℕ) → length f ≡ 4 → 8 ≤ length l → m ≡ placed 0 (syn ++ f) l
    → last ≡ placed 4 (le16 (checksum_of (take 4 (lent_from 2 m)))) (lent_from 2 m)
    → given_back 2 m last ≡ placed 0 (syn ++ (f ++ le16 (checksum_of f))) l
with_checksum f l m last four fits before put =
    let two : length (le16 (checksum_of f)) ≡ 2 = length_le16 (checksum_of f) in
    let same : length m ≡ length l = ap length before ∙ length_placed 0 (syn ++ f) l (omega arith) in
    let sum : take 4 (lent_from 2 m) ≡ f = rw (tail 2 m, before) (fields_at f l four) in
    let place : 6 ≡ length (syn ++ f) = omega arith in
    let there : given_back 2 m (placed 4 (le16 (checksum_of f)) (lent_from 2 m)) ≡ placed 6 (le16 (checksum_of f)) m =
    lent 2 4 (le16 (checksum_of f)) m (omega arith) in
    rw (put, sum, there, before, place) (neighbours_front (syn ++ f) (le16 (checksum_of f)) l (omega arith))

pub returns : goal.returns
unfolding header
returns c =
    let fs = c in
    let copied = c in
    let four = length_fields copied.args.header.kind _ _ in
    with_checksum _ _ _ _ four (omega arith)
    (with_fields _ _ _ _ four (omega arith) copied.copy.ensures.whole fs.write_fields.ensures)
    c.write_checksum.ensures
