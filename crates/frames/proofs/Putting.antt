-- What the message writer leaves at the front of a buffer with room: the message itself, and the same around a payload put there first.
use Prim.Native.Nat.{ℕ, ◌+◌, ◌≤◌}
use mathlib.Core.Bool.{true}
use mathlib.Core.List.{List, ◌++◌}
use mathlib.Core.Path.{◌≡◌, refl, sym, ap, ◌∙◌}
use native.Mathlib.Omega.{arith}
use lib.ListN.{length, take, drop}
use lib.Seq.{take_at}
use borrow.Author.Tests.{le-ltb, le-leb}
use Rattle.std.specs.Prelude.{Result, Ok, Err}
use Rattle.message.proofs.Accepted.{says_length}
use Rattle.message.proofs.Buffer.{lent_from, given_back, lent_front, length_placed, from_placed, beyond_placed, front}
use Rattle.message.proofs.Headers.{length_message}
use Rattle.message.specs.Bytes.{message, header_length, payload_at, total, max_len, ack, nak, data_seq, allowed, writable}
use Rattle.message.specs.Promises.{answer_of, Wrote}
use Rattle.message.specs.Writing.{accepted, after, placed}
use Rattle.message.specs.declared.WriteError.{WriteError}
use Rattle.message.specs.declared.WriteError.TheVariants.{Forbidden, NoRoom}
use Rattle.command.proofs.Laws.{length_payload}
use Rattle.command.specs.Payload.{Fields, head_length, max_data, payload}
use Rattle.command.specs.Promises as command
use Rattle.frames.specs.Promises.{Put}

-- the headers that the ends of the line write
pub ack_writable : (seq : ℕ) → writable ack 0 seq ≡ true
unfolding writable allowed
ack_writable seq = refl

pub nak_writable : writable nak 0 0 ≡ true
unfolding writable allowed
nak_writable = refl

data-writable : (len seq : ℕ) → 1 ≤ len → len ≤ max_len → writable data_seq len seq ≡ true
unfolding writable allowed
data-writable len seq some few = rw (le-leb 1 len some, le-leb len max_len few)

ok_same : (n k : ℕ) → ◌≡◌ {A = Result ℕ WriteError} (Ok n) (Ok k) → n ≡ k
ok_same n k h = cc

-- an answer that is a length is that of a message that was written
accepts : (r : Result ℕ WriteError) (k : ℕ) → answer_of r ≡ accepted k → r ≡ Ok k
accepts (Ok n) k h = cc
accepts (Err Forbidden) k h = cc
accepts (Err NoRoom) k h = cc

-- a message that may be written and fits is written
pub writes : (r : Result ℕ WriteError) (t q : ℕ) (p entry exit : List ℕ) → writable t (length p) q ≡ true → total (length p) ≤ length entry
    → Wrote r 0 t q (length p) p entry exit → r ≡ Ok (total (length p))
writes r t q p entry exit sound room wrote =
    accepts r (total (length p))
    (wrote.answers ∙ says_length (length entry) 0 t q (length p) sound (le-ltb (length entry) (0 + total (length p)) (omega arith)))

-- so it is placed, and its length answered
pub put_message : (r : Result ℕ WriteError) (n t q : ℕ) (p entry exit : List ℕ) → writable t (length p) q ≡ true
    → total (length p) ≤ length entry → r ≡ Ok n → Wrote r 0 t q (length p) p entry exit → Put n (message t q p) entry exit
put_message r n t q p entry exit sound room told wrote =
    let count : n ≡ total (length p) = ok_same n (total (length p)) (sym told ∙ writes r t q p entry exit sound room wrote) in
    record {
      counts = count ∙ sym (length_message t q p);
      leaves = wrote.leaves ∙ ap (λ a. after (answer_of a) 0 (message t q p) entry) told;
    }

-- bytes put over others, and k behind those
over : (a k : ℕ) (m n l : List ℕ) → a + length n ≤ length l → length m ≡ a + length n + k → placed 0 m (placed a n l) ≡ placed 0 m l
over a k m n l fits size =
    let rest : drop (length m) (placed a n l) ≡ drop (length m) l = rw size (beyond_placed a n l fits k) in
    sym (front m (placed a n l)) ∙ ap (m ++◌) rest ∙ front m l

-- the frame of a command: its payload is put behind the room for the header, then the header and the checksum around it
module _ (r : Result ℕ WriteError) (len q id : ℕ) (f : Fields) (bytes entry x exit : List ℕ) (short : length bytes ≤ max_data) (room : total max_len ≤ length entry) (inner : command.Wrote len f id bytes (lent_from header_length entry) x) (outer : Wrote r 0 data_seq q len (payload_at 0 len (given_back header_length entry x)) (given_back header_length entry x) exit) where
  abbrev bytes_of : List ℕ
  bytes_of = payload f id bytes

  long : length bytes_of ≡ head_length + length bytes
  long = length_payload f id bytes

  -- the buffer with the payload alone
  abbrev middle : List ℕ
  middle = placed header_length bytes_of entry

  same : length middle ≡ length entry
  same = let l = long in length_placed header_length bytes_of entry (omega arith)

  wrote : Wrote r 0 data_seq q (length bytes_of) bytes_of middle exit
  wrote =
      let l = long in
      let size : len ≡ length bytes_of = inner.answers ∙ sym l in
      let mid : given_back header_length entry x ≡ middle =
      rw inner.leaves (lent_front header_length bytes_of entry (omega arith)) in
      let there : payload_at 0 (length bytes_of) middle ≡ bytes_of =
      ap (take (length bytes_of)) (from_placed header_length bytes_of entry (omega arith))
      ∙ take_at bytes_of (drop (header_length + length bytes_of) entry) (length bytes_of) refl in
      rw (mid, size, there) at outer

  sound : writable data_seq (length bytes_of) q ≡ true
  sound = let l = long in data-writable (length bytes_of) q (omega arith) (omega arith)

  fits : total (length bytes_of) ≤ length middle
  fits = let l = long in let s = same in omega arith

  pub command_writes : r ≡ Ok (total (length bytes_of))
  command_writes = writes r data_seq q bytes_of middle exit sound fits wrote

  pub put_command : {n : ℕ} → r ≡ Ok n → Put n (message data_seq q bytes_of) entry exit
  put_command {n} told =
      let put = put_message r n data_seq q bytes_of middle exit sound fits told wrote in
      let l = long in
      let whole = length_message data_seq q bytes_of in
      record {
        counts = put.counts;
        leaves = put.leaves ∙ over header_length 2 (message data_seq q bytes_of) bytes_of entry (omega arith) (omega arith);
      }
