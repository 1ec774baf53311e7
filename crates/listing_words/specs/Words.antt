-- Document 01, "Capture lister": the words and numbers of a listing, as ASCII.
use Prim.Native.Char.{code}
use Rattle.std.specs.Prelude.{ℕ, ◌+◌, ◌/◌, ◌%◌, cond as if, List, [], ◌∷◌, eqb, ltb}
use Rattle.texts.specs.Text.{ascii}
use Rattle.message.specs.Bytes.{ack, nak, data_seq}

-- a decimal digit
abbrev pub digit : ℕ → ℕ
digit n = code "0" + n

-- every SEQ, LEN and held count is below this
abbrev pub decimal_limit : ℕ
decimal_limit = 1000

-- "numbers in decimal", of a number below that limit
unfoldable pub decimal : ℕ → List ℕ
decimal n =
    if (ltb n 10) (digit n ∷ [])
    (if (ltb n 100) (digit (n / 10) ∷ digit (n % 10) ∷ [])
    (digit (n / 100) ∷ digit (n / 10 % 10) ∷ digit (n % 10) ∷ []))

-- "ACK", "NAK", "SEQ", "NSQ" by TYPE, each with the space behind it; a message has one of the four
unfoldable pub word : ℕ → List ℕ
word type =
    if (eqb type ack) (ascii "ACK ")
    (if (eqb type nak) (ascii "NAK ")
    (if (eqb type data_seq) (ascii "SEQ ")
    (ascii "NSQ ")))
