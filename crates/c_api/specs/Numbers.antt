-- What the functions for C answer as numbers (document 01: "called from a C host, with numbers and byte buffers only").
use Rattle.std.specs.Prelude.{ℕ, ◌+◌, List, ◌≡◌, length}
use Rattle.std.specs.Prelude.{Option, None, Some}
use Rattle.message.specs.Bytes as bytes
use Rattle.message.specs.Bytes.{header_length}
use Rattle.message.specs.Items.{damaged_header, forbidden, damaged_payload, message, Scan, undecided, decided}
use Rattle.message.specs.Writing.{Answer, accepted, refused, written, after}

-- the writer's answer: the length, or the refusal's number. A length is at least 10, and a refusal is 6 or 7.
abbrev pub number_of : Answer → ℕ
number_of (accepted length) = length
number_of (refused number) = number

-- what the writer promises of its number and of its buffer, at entry and at exit
pub record WroteNumber (number place type seq : ℕ) (payload entry exit : List ℕ) : Type 0 where
  pub answers : number ≡ number_of (written (length entry) place type seq (length payload))
  pub leaves : exit ≡ after (written (length entry) place type seq (length payload)) place (bytes.message type seq payload) entry

-- the reader's answer: the rule that decided, and the numbers of its item; `payload` is the place of the payload's first byte
pub data Numbers : Type 0 where
  numbers : (rule type seq payload len dropped removed : ℕ) → Numbers

-- "2. .. damaged header", "3. .. forbidden", "5. .. damaged payload", "6. .. message"; 0 where no rule decided an item
abbrev pub numbers_of : Scan → Numbers
numbers_of (undecided n) = numbers 0 0 0 0 0 n 0
numbers_of (decided damaged_header n r) = numbers 2 0 0 0 0 n r
numbers_of (decided forbidden n r) = numbers 3 0 0 0 0 n r
numbers_of (decided damaged_payload n r) = numbers 5 0 0 0 0 n r
numbers_of (decided (message type seq len) n r) = numbers 6 type seq (n + header_length) len n r

-- that place, 0 for all but a message
abbrev pub place_of : Scan → ℕ
place_of (undecided n) = 0
place_of (decided damaged_header n r) = 0
place_of (decided forbidden n r) = 0
place_of (decided damaged_payload n r) = 0
place_of (decided (message type seq len) n r) = n + header_length

-- the audit's answer: "the first position, counted from 0, .., or that there is none", for which the number of IDs in the row stands. A
-- position is below that number.
abbrev pub position_in : (count : ℕ) → Option ℕ → ℕ
position_in count (Some position) = position
position_in count None = count
