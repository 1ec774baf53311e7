-- `message_writer::put_around` meets its contract: the header's loan and the checksum's, around a payload that stands there.
use Prim.Native.Nat.{ℕ, ◌+◌, ◌≤◌}
use mathlib.Core.List.{List}
use mathlib.Core.Path.{ap, ◌∙◌, ◌≡◌}
use native.Mathlib.Omega.{arith}
use lib.ListN.{length, take, length-take, length-drop}
use Rattle.checksum.specs.Checksum.{checksum_of}
use Rattle.message.specs.Writing.{placed}
use Rattle.message.specs.Bytes.{le16, header_length, header, body, message, total, payload_at}
use Rattle.message.proofs.Buffer.{lent_from, given_back, lent_second, lent_after}
use Rattle.message.proofs.Headers.{length_le16, length_header}
use Rattle.message_writer.proofs.put_around.Goals as goal

-- what the two loans leave
left : (t q a n : ℕ) (l x y : List ℕ) → a + total n ≤ length l → x ≡ placed 0 (header t n q) (lent_from a l)
    → y ≡ placed n (le16 (checksum_of (take n (lent_from (a + header_length) (given_back a l x)))))
    (lent_from (a + header_length) (given_back a l x))
    → given_back (a + header_length) (given_back a l x) y ≡ placed a (message t q (payload_at a n l)) l
unfolding message body
left t q a n l x y fits first second =
    let eight = length_header t n q in
    let two = length_le16 (checksum_of (payload_at a n l)) in
    let count : length (payload_at a n l) ≡ n = simp (length-take, length-drop) (omega arith) in
    let shown = lent_second a header_length (header t n q) l x eight first (omega arith) in
    let sum = ap (λ (z : List ℕ). placed n (le16 (checksum_of (take n z))) (lent_from (a + header_length) (given_back a l x))) shown in
    rw count
    (lent_after a header_length (header t n q) l x eight first n (le16 (checksum_of (payload_at a n l))) y (omega arith)
    (second ∙ sum))

pub returns : goal.returns
returns c =
    let a = c.args in
    left a.header.kind a.header.seq.0 a.place a.header.len a.buffer.now _ _ (omega arith)
    c.write_header.ensures c.write_checksum.ensures
