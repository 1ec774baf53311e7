-- Document 01, "The writer places a message at a given place in a lent buffer": what it answers, and the buffer afterwards.
use Rattle.std.specs.Prelude.{ℕ, ◌+◌, not, cond as if, List, ◌++◌, ltb, length, take, drop}
use Rattle.message.specs.Bytes.{total, writable}

-- the writer's refusal numbers: "forbidden header, or NAK with SEQ not 0", "place plus 10 + LEN past the buffer's end"
abbrev pub forbidden_header : ℕ
forbidden_header = 7

abbrev pub no_room : ℕ
no_room = 6

-- "it answers the length written", or a refusal's number
pub data Answer : Type 0 where
  accepted : (length : ℕ) → Answer
  refused : (number : ℕ) → Answer

-- the table's two lines for the writer, 6 "after 7"
unfoldable pub written : (size place type seq len : ℕ) → Answer
written size place type seq len =
    if (not (writable type len seq)) (refused forbidden_header)
    (if (ltb size (place + total len)) (refused no_room)
    (accepted (total len)))

-- "bytes before and after it stay": the buffer with bytes at a place of it
unfoldable pub placed : ℕ → List ℕ → List ℕ → List ℕ
placed place bytes buffer = take place buffer ++ (bytes ++ drop (place + length bytes) buffer)

-- the buffer after an answer: a refusal leaves it
abbrev pub after : Answer → ℕ → List ℕ → List ℕ → List ℕ
after (accepted n) place bytes buffer = placed place bytes buffer
after (refused n) place bytes buffer = buffer
