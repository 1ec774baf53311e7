-- The bytes of a command and what is read from them, each way: by computing the list, and byte by byte.
use Prim.Native.Nat.{ℕ, ◌+◌, ◌≤◌, ◌<◌}
use mathlib.Core.Bool.{true}
use mathlib.Core.List.{List, [], ◌∷◌, ◌++◌}
use mathlib.Core.Path.{◌≡◌, refl, sym, ap, ◌∙◌}
use native.Mathlib.Omega.{arith}
use lib.Dec.{eqb, leb}
use lib.ListN.{length, get_or, take, drop}
use lib.Seq.{drop-cons, take_at}
use borrow.Author.Tests.{le-leb, leb-true, eqb-true}
use Rattle.message.proofs.Buffer.{after_placed, lent_from, given_back, length_placed, copied, neighbours_front}
use Rattle.message.proofs.Headers.{both}
use Rattle.message.proofs.WrittenRead.{le16_from}
use Rattle.message.specs.Bytes.{le16}
use Rattle.message.specs.Writing.{placed}
use Rattle.command.specs.Payload.{Fields, command_mark, head_length, payload, is_command, fields_in, rqid_in, data_in}
use Rattle.command.specs.Promises.{Wrote, command, command_in}

-- a command as it was written
module _ (f : Fields) (i : ℕ) (d : List ℕ) where
  pub length_payload : length (payload f i d) ≡ head_length + length d
  unfolding payload le16
  length_payload = omega arith

  pub is_command_law : is_command (payload f i d) ≡ true
  unfolding is_command payload le16
  is_command_law = rw (le-leb head_length (length (payload f i d)) (omega arith))

  pub fields_read : fields_in (payload f i d) ≡ f
  unfolding payload le16
  fields_read = refl

  pub rqid_read : rqid_in (payload f i d) ≡ i
  unfolding payload le16
  rqid_read = omega arith

  pub data_read : data_in (payload f i d) ≡ d
  unfolding payload le16
  data_read = refl

  pub command_read : command_in (payload f i d) ≡ command f i
  unfolding command_in
  command_read = rw (is_command_law, fields_read, rqid_read)

-- a part in which it was written
pub written_command : {n i : ℕ} {f : Fields} {d entry exit : List ℕ} → Wrote n f i d entry exit → take n exit ≡ payload f i d
unfolding placed
written_command {n} {i} {f} {d} {entry} {exit} wrote =
    let count : length (payload f i d) ≡ n = omega (arith, length_payload f i d, wrote.answers) in
    rw wrote.leaves (take_at (payload f i d) (drop (0 + length (payload f i d)) entry) n count)

pub written_rest : {n i : ℕ} {f : Fields} {d entry exit : List ℕ} → head_length + length d ≤ length entry → Wrote n f i d entry exit
    → drop n exit ≡ drop n entry
written_rest {n} {i} {f} {d} {entry} {exit} room wrote =
    let long : n ≡ 0 + length (payload f i d) = omega (arith, length_payload f i d, wrote.answers) in
    rw (wrote.leaves, long) (after_placed 0 (payload f i d) entry (omega (arith, length_payload f i d)))

-- what the writer leaves: its first eight bytes at the front, and the data copied right behind them
length_head : (f : Fields) (i : ℕ) → length (payload f i []) ≡ head_length
unfolding payload le16
length_head f i = refl

with_data : (f : Fields) (i : ℕ) (d : List ℕ) → payload f i [] ++ d ≡ payload f i d
unfolding payload le16
with_data f i d = refl

pub head_then_data : (f : Fields) (i n : ℕ) (d l head x : List ℕ) → head_length + length d ≤ length l → head ≡ placed 0 (payload f i []) l
    → n ≡ length d → x ≡ take (length d) d ++ drop (length d) (lent_from head_length head)
    → Wrote (head_length + n) f i d l (given_back head_length head x)
head_then_data f i n d l head x fits first count second =
    let eight = length_head f i in
    let same : length head ≡ length l = ap length first ∙ length_placed 0 (payload f i []) l (omega arith) in
    let there : given_back head_length head x ≡ placed head_length d head = copied head_length d head x (omega arith) second in
    let joined : placed head_length d (placed 0 (payload f i []) l) ≡ placed 0 (payload f i d) l =
    rw (length_head f i, with_data f i d) at (neighbours_front (payload f i []) d l (omega arith)) in
    record { answers = rw count; leaves = there ∙ rw first joined }

-- eight bytes in front of the rest
eight : (xs : List ℕ) → head_length ≤ length xs
    → xs
    ≡ get_or xs 0 0 ∷ get_or xs 1 0 ∷ get_or xs 2 0 ∷ get_or xs 3 0 ∷ get_or xs 4 0 ∷ get_or xs 5 0 ∷ get_or xs 6 0 ∷ get_or xs 7 0 ∷ drop 8 xs
eight xs long =
    rw (
      ← drop-cons xs 7 0 (omega arith),
      ← drop-cons xs 6 0 (omega arith),
      ← drop-cons xs 5 0 (omega arith),
      ← drop-cons xs 4 0 (omega arith),
      ← drop-cons xs 3 0 (omega arith),
      ← drop-cons xs 2 0 (omega arith),
      ← drop-cons xs 1 0 (omega arith),
      ← drop-cons xs 0 0 (omega arith),
    )

-- a command as it was read
module _ (xs : List ℕ) (marked : is_command xs ≡ true) where
  mark_and_length : (leb head_length (length xs) ≡ true) × (eqb (get_or xs 0 0) command_mark ≡ true)
  unfolding is_command
  mark_and_length = both (leb head_length (length xs)) (eqb (get_or xs 0 0) command_mark) marked

  pub long : head_length ≤ length xs
  long = leb-true head_length (length xs) mark_and_length.0

  mark : get_or xs 0 0 ≡ command_mark
  mark = eqb-true (get_or xs 0 0) command_mark mark_and_length.1

  pub payload_read : ((i : ℕ) → get_or xs i 0 < 256) → payload (fields_in xs) (rqid_in xs) (data_in xs) ≡ xs
  unfolding payload
  payload_read bytes = rw (le16_from (get_or xs 5 0) (get_or xs 6 0) (bytes 5), ← mark) (sym (eight xs long))
