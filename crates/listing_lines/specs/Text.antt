-- Document 01, "Capture lister": the lines of a listing, as ASCII.
use Rattle.std.specs.Prelude.{ℕ, List, ◌++◌}
use Rattle.message.specs.Items.{Item, damaged_header, forbidden, damaged_payload, message}
use Rattle.texts.specs.Text.{ascii}
use Rattle.listing_words.specs.Words.{decimal, word}

-- "a line an item (`ACK s 0`, `NAK s 0`, `SEQ s len`, `NSQ s len`, `BADHEAD`, `BADBODY`, `FORBIDDEN`)"
unfoldable pub line_of : Item → List ℕ
line_of damaged_header = ascii "BADHEAD\n"
line_of damaged_payload = ascii "BADBODY\n"
line_of forbidden = ascii "FORBIDDEN\n"
line_of (message type seq len) = word type ++ (decimal seq ++ (ascii " " ++ (decimal len ++ ascii "\n")))

-- "then `end` and the held count"
unfoldable pub end_of : ℕ → List ℕ
end_of held = ascii "end " ++ (decimal held ++ ascii "\n")

-- room that a line is given, its end included; the longest has 12 bytes
abbrev pub line_room : ℕ
line_room = 16

-- the LEN that an item names
abbrev pub len_of : Item → ℕ
len_of damaged_header = 0
len_of forbidden = 0
len_of damaged_payload = 0
len_of (message type seq len) = len
