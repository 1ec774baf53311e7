-- Document 01, "How bytes become items": the first item of a list of bytes, by the six rules.
use Rattle.std.specs.Prelude.{ℕ, suc, ◌+◌, Bool, false, not, ◌&&◌, cond as if, List, [], ◌∷◌, eqb, ltb, length, get_or, take, drop}
use Rattle.checksum.specs.Checksum.{checksum_of}
use Rattle.message.specs.Bytes.{from_le16, syn1, syn2, syn, header_length, payload_at, allowed, total}

-- the items, by 01's names; "a message with TYPE, SEQ and LEN"
pub data Item : Type 0 where
  damaged_header : Item
  forbidden : Item
  damaged_payload : Item
  message : (type seq len : ℕ) → Item

-- of rules 1 to 6, the number of the one that decides an item; 1 and 4 leave it undecided
abbrev pub rule_of : Item → ℕ
rule_of damaged_header = 2
rule_of forbidden = 3
rule_of damaged_payload = 5
rule_of (message type seq len) = 6

-- "the first item .., with the bytes dropped before it and the bytes removed with it, or undecided with the bytes dropped"
pub data Scan : Type 0 where
  undecided : (dropped : ℕ) → Scan
  decided : Item → (dropped removed : ℕ) → Scan

-- "AA 55 stands in front; a lone AA at the end is kept": nothing more is dropped
unfoldable pub stands : List ℕ → Bool
stands [] = false
stands (x ∷ []) = eqb x syn1
stands (x ∷ y ∷ xs) = eqb x syn1 && eqb y syn2

-- "Drop bytes until AA 55 stands in front": how many go
unfoldable pub dropped : List ℕ → ℕ
dropped [] = 0
dropped (x ∷ xs) = if (stands (x ∷ xs)) 0 (suc (dropped xs))

-- the parts of a message that stands in front: SYN (2), TYPE (1), LEN (2), SEQ (1), checksum (2), payload (LEN), checksum (2)
abbrev pub type_in : List ℕ → ℕ
type_in xs = get_or xs 2 0

abbrev pub len_in : List ℕ → ℕ
len_in xs = from_le16 (get_or xs 3 0) (get_or xs 4 0)

abbrev pub seq_in : List ℕ → ℕ
seq_in xs = get_or xs 5 0

abbrev pub fields_in : List ℕ → List ℕ
fields_in xs = take 4 (drop 2 xs)

abbrev pub header_checksum_in : List ℕ → ℕ
header_checksum_in xs = from_le16 (get_or xs 6 0) (get_or xs 7 0)

abbrev pub payload_in : List ℕ → List ℕ
payload_in xs = take (len_in xs) (drop header_length xs)

abbrev pub payload_checksum_in : List ℕ → ℕ
payload_checksum_in xs = from_le16 (get_or xs (header_length + len_in xs) 0) (get_or xs (header_length + len_in xs + 1) 0)

-- "After 2, 3 and 5 only the two SYN bytes are removed; after 6 the whole message."
abbrev pub removed_with : Item → ℕ
removed_with damaged_header = length syn
removed_with forbidden = length syn
removed_with damaged_payload = length syn
removed_with (message type seq len) = total len

-- an item found after n bytes were dropped, with the bytes removed with it
abbrev pub found : ℕ → Item → Scan
found n item = decided item n (removed_with item)

-- rules 1 to 6 in their order, on what is left after n bytes were dropped
unfoldable pub rules : ℕ → List ℕ → Scan
rules n xs =
    if (ltb (length xs) header_length) (undecided n)
    (if (not (eqb (header_checksum_in xs) (checksum_of (fields_in xs)))) (found n damaged_header)
    (if (not (allowed (type_in xs) (len_in xs))) (found n forbidden)
    (if (ltb (length xs) (total (len_in xs))) (undecided n)
    (if (not (eqb (payload_checksum_in xs) (checksum_of (payload_in xs)))) (found n damaged_payload)
    (found n (message (type_in xs) (seq_in xs) (len_in xs)))))))

-- the first item of a list of bytes
unfoldable pub scan : List ℕ → Scan
scan xs = rules (dropped xs) (drop (dropped xs) xs)

-- "hands back the payload as a part of that slice .. The part is empty for all but a message": the part that an answer names
abbrev pub part_with : Scan → List ℕ → List ℕ
part_with (undecided n) xs = []
part_with (decided damaged_header n r) xs = []
part_with (decided forbidden n r) xs = []
part_with (decided damaged_payload n r) xs = []
part_with (decided (message type seq len) n r) xs = payload_at n len xs

-- the payload of the first item of a list of bytes
unfoldable pub payload_of : List ℕ → List ℕ
payload_of xs = part_with (scan xs) xs
