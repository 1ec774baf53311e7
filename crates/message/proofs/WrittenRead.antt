-- What was read as a message is the bytes that the writer writes for it.
use Prim.Native.Nat.{ℕ, suc, ◌+◌, ◌*◌, ◌/◌, ◌%◌, ◌≤◌, ◌<◌}
use mathlib.Core.Bool.{true}
use mathlib.Core.List.{List, [], ◌∷◌, ◌++◌}
use mathlib.Core.Path.{◌≡◌, sym, ap, ◌∙◌}
use native.Mathlib.Numerals.{add-one}
use native.Mathlib.Omega.{arith}
use lib.ListN.{length, take, drop, get_or, length-take, length-drop}
use lib.Seq.{take-add, drop-drop, drop-cons, get_or-drop}
use Rattle.checksum.specs.Checksum.{checksum_of}
use Rattle.message.specs.Items as items
use Rattle.message.specs.Bytes.{le16, from_le16, fields, header, header_length, body, message, total}
use Rattle.message.specs.Items.{decided, stands, dropped, scan, payload_of, type_in, len_in, seq_in, fields_in, header_checksum_in, payload_in, payload_checksum_in}
use Rattle.message.proofs.Dropping.{dropped_within, stands_left, syn_left}
use Rattle.message.proofs.Found.{MessageAt, message_at}

-- two bytes of a list
pair_at : (i : ℕ) (xs : List ℕ) → i + 2 ≤ length xs → take 2 (drop i xs) ≡ get_or xs i 0 ∷ get_or xs (i + 1) 0 ∷ []
pair_at i xs h = rw (drop-cons xs i 0 (omega arith), drop-cons xs (suc i) 0 (omega arith), add-one i)

-- a number's bytes are those that it was read from
pub le16_from : (a b : ℕ) → a < 256 → le16 (from_le16 a b) ≡ a ∷ b ∷ []
unfolding le16
le16_from a b h =
    let low : (a + b * 256) % 256 ≡ a = omega arith in let high : (a + b * 256) / 256 ≡ b = omega arith in rw (low, high)

module _ (xs : List ℕ) (bytes : (i : ℕ) → get_or xs i 0 < 256) (long : header_length ≤ length xs) where
  fields_read : fields_in xs ≡ fields (type_in xs) (len_in xs) (seq_in xs)
  unfolding fields
  fields_read =
      rw (
        le16_from (get_or xs 3 0) (get_or xs 4 0) (bytes 3),
        drop-cons xs 2 0 (omega arith),
        drop-cons xs 3 0
            (omega arith),
        drop-cons xs 4 0 (omega arith),
        drop-cons xs 5 0 (omega arith),
      )

  header_read : stands xs ≡ true → header_checksum_in xs ≡ checksum_of (fields_in xs)
      → take header_length xs ≡ header (type_in xs) (len_in xs) (seq_in xs)
  unfolding header
  header_read here sound =
      let whole : take 6 (drop 2 xs) ≡ fields_in xs ++ take 2 (drop 6 xs) = take-add 4 2 (drop 2 xs) ∙ ap
      (λ (l : List ℕ). fields_in xs ++ take 2 l) (drop-drop 4 2 xs) in
      let sum : take 2 (drop 6 xs) ≡ le16 (checksum_of (fields_in xs)) =
      pair_at 6 xs (omega arith) ∙ sym (le16_from (get_or xs 6 0) (get_or xs 7 0) (bytes 6)) ∙ ap le16 sound in
      take-add 2 6 xs ∙ rw (syn_left xs (omega arith) here, whole, sum, ← fields_read)

  body_read : total (len_in xs) ≤ length xs → payload_checksum_in xs ≡ checksum_of (payload_in xs)
      → take (len_in xs + 2) (drop header_length xs) ≡ body (payload_in xs)
  unfolding body
  body_read whole good =
      let sum : take 2 (drop (header_length + len_in xs) xs) ≡ le16 (checksum_of (payload_in xs)) =
      pair_at (header_length + len_in xs) xs (omega arith)
      ∙ sym (le16_from (get_or xs (header_length + len_in xs) 0) (get_or xs (header_length + len_in xs + 1) 0)
      (bytes (header_length + len_in xs)))
      ∙ ap le16 good in
      take-add (len_in xs) 2 (drop header_length xs) ∙ rw (drop-drop (len_in xs) header_length xs, sum)

-- the bytes of the message, whole
message_read : (n : ℕ) (xs : List ℕ) {t q len d r : ℕ} → ((i : ℕ) → get_or xs i 0 < 256) → stands xs ≡ true
    → MessageAt n xs t q len d r
    → message t q (payload_in xs) ≡ take r xs
unfolding message
message_read n xs {t} {q} {len} {d} {r} bytes here m =
    let count : length (payload_in xs) ≡ len_in xs = simp (length-take, length-drop) (omega arith) in
    let all : r ≡ header_length + (len_in xs + 2) = omega arith in
    rw (
      all,
      m.type,
      m.seq,
      count,
      take-add header_length (len_in xs + 2) xs,
      header_read xs bytes (omega arith) here
          m.sound,
      body_read xs bytes (omega arith) m.whole m.good,
    )

pub written_read : (xs : List ℕ) {t q len d r : ℕ} → ((i : ℕ) → get_or xs i 0 < 256) → scan xs ≡ decided (items.message t q len) d r
    → message t q (payload_of xs) ≡ take r (drop d xs)
unfolding payload_of
written_read xs {t} {q} {len} {d} {r} bytes h =
    let m = message_at xs h in
    let left : (i : ℕ) → get_or (drop (dropped xs) xs) i 0 < 256 = λ i. rw (get_or-drop (dropped xs) xs i 0) (bytes (dropped xs + i)) in
    let here : stands (drop (dropped xs) xs) ≡ true = stands_left xs (omega arith) in
    rw (h, m.place, m.count, ← drop-drop header_length (dropped xs) xs)
    (message_read (dropped xs) (drop (dropped xs) xs) left here m)

-- the payload that was read has LEN bytes
pub payload_length : (xs : List ℕ) {t q len d r : ℕ} → scan xs ≡ decided (items.message t q len) d r → length (payload_of xs) ≡ len
unfolding payload_of
payload_length xs {t} {q} {len} {d} {r} h =
    let m = message_at xs h in
    rw h (simp (length-take, length-drop) (omega (arith, dropped_within xs, length-drop (dropped xs) xs)))
