-- A message that begins a list of bytes is read as it was written, and takes exactly its bytes.
use Prim.Native.Nat.{ℕ, ◌+◌, ◌/◌, ◌%◌, ◌≤◌}
use mathlib.Core.Bool.{true}
use mathlib.Core.List.{List, [], ◌∷◌, ◌++◌, append_assoc}
use mathlib.Core.Path.{◌≡◌, refl, sym, ap, ◌∙◌}
use native.Mathlib.Nat.{add_assoc}
use native.Mathlib.Omega.{arith}
use lib.Dec.{eqb}
use lib.ListN.{length, drop, get_or, length-append}
use lib.Seq.{take_at, get_or-drop, get_or-append_seam, get_or-append-add}
use borrow.Author.Tests.{eq-eqb}
use Rattle.checksum.specs.Checksum.{checksum_of}
use Rattle.message.specs.Items as items
use Rattle.message.specs.Bytes.{le16, from_le16, fields, header, header_length, body, message, total, allowed}
use Rattle.message.specs.Items.{stands, scan, payload_of, decided, type_in, len_in, seq_in, fields_in, header_checksum_in, payload_in, payload_checksum_in}
use Rattle.message.proofs.Dropping.{dropped_here}
use Rattle.message.proofs.Headers.{length_message}
use Rattle.message.proofs.Rules.{rule_6}

-- the two bytes of a number give it back
from_le16_law : (n : ℕ) → from_le16 (n % 256) (n / 256) ≡ n
from_le16_law n = omega arith

-- the parts of a message that begins a list
module _ (t q : ℕ) (p rest : List ℕ) where
  stands_message : stands (message t q p ++ rest) ≡ true
  unfolding stands message header
  stands_message = refl

  len_message : len_in (message t q p ++ rest) ≡ length p
  unfolding message header fields le16
  len_message = from_le16_law (length p)

  header_message : eqb (header_checksum_in (message t q p ++ rest)) (checksum_of (fields_in (message t q p ++ rest))) ≡ true
  unfolding message header fields le16
  header_message = eq-eqb _ _ (from_le16_law (checksum_of (t ∷ length p % 256 ∷ length p / 256 ∷ q ∷ [])))

  after_message : drop header_length (message t q p ++ rest) ≡ p ++ (le16 (checksum_of p) ++ rest)
  unfolding message header fields body le16
  after_message = append_assoc p (le16 (checksum_of p)) rest

  payload_message : payload_in (message t q p ++ rest) ≡ p
  payload_message = rw (len_message, after_message) (take_at p (le16 (checksum_of p) ++ rest) (length p) refl)

  at_message : (i : ℕ) → get_or (message t q p ++ rest) (header_length + i) 0 ≡ get_or (p ++ (le16 (checksum_of p) ++ rest)) i 0
  at_message i = sym (get_or-drop header_length (message t q p ++ rest) i 0) ∙ ap (λ (l : List ℕ). get_or l i 0) after_message

  stored_message : from_le16 (get_or (message t q p ++ rest) (header_length + length p) 0)
      (get_or (message t q p ++ rest) (header_length + length p + 1) 0)
      ≡ checksum_of p
  unfolding le16
  stored_message =
      rw (add_assoc header_length (length p) 1, at_message (length p), at_message (length p + 1))
      (rw (get_or-append_seam p, get_or-append-add p) (from_le16_law (checksum_of p)))

  checksum_message : eqb (payload_checksum_in (message t q p ++ rest)) (checksum_of (payload_in (message t q p ++ rest))) ≡ true
  checksum_message = rw (payload_message, len_message) (eq-eqb _ (checksum_of p) stored_message)

  long_message : total (length p) ≤ length (message t q p ++ rest)
  long_message = rw (length-append (message t q p) rest, length_message t q p) (omega arith)

  type_message : type_in (message t q p ++ rest) ≡ t
  unfolding message header fields
  type_message = refl

  seq_message : seq_in (message t q p ++ rest) ≡ q
  unfolding message header fields le16
  seq_message = refl

  -- it is read as it was written, and takes exactly its bytes
  pub scan_message : allowed t (length p) ≡ true
      → scan (message t q p ++ rest) ≡ decided (items.message t q (length p)) 0 (total (length p))
  unfolding scan
  scan_message fine =
      let long = long_message in
      rw (dropped_here (message t q p ++ rest) stands_message)
      (rule_6 0 (message t q p ++ rest) (omega arith) header_message (rw (type_message, len_message) fine)
      (rw len_message long) checksum_message
      ∙ rw (type_message, seq_message, len_message))

  pub payload_of_message : allowed t (length p) ≡ true → payload_of (message t q p ++ rest) ≡ p
  unfolding payload_of
  payload_of_message fine = rw (scan_message fine) (rw (← len_message) payload_message)
