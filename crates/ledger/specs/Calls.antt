-- Document 01, "What demand 3 compares": a call after open, as one type. "Each call brings its own input bytes and buffers, of any
-- length and contents, and any clock."
use Rattle.std.specs.Prelude.{ℕ, Bool, List, [], ◌∷◌}
use Rattle.command.specs.Payload.{Fields}

pub data Call : Type 0 where
  submit : (fields : Fields) (bytes : List ℕ) (wanted : Bool) (clock : ℕ) → Call
  receive : (bytes reply buffer : List ℕ) (clock : ℕ) → Call
  poll : (output : List ℕ) (clock : ℕ) → Call

-- the reading that a call brings
abbrev pub reading_of : Call → ℕ
reading_of (submit fields bytes wanted clock) = clock
reading_of (receive bytes reply buffer clock) = clock
reading_of (poll output clock) = clock

-- the buffers that it lends to be written, in the order of its parameters
abbrev pub lent_by : Call → List (List ℕ)
lent_by (submit fields bytes wanted clock) = []
lent_by (receive bytes reply buffer clock) = reply ∷ buffer ∷ []
lent_by (poll output clock) = output ∷ []
