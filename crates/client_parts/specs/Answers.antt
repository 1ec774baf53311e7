-- The frame of a request, and what the three receives of a response answer: the contract of `client` and those of its parts cite these.
use Rattle.std.specs.Prelude.{ℕ, ◌+◌, List, length}
use Rattle.std.proofs.Math.Option.{none, some}
use Rattle.message.specs.Bytes.{message, total, ack, data_seq}
use Rattle.message.specs.Items as items
use Rattle.line.specs.Receiving.{more, item}
use Rattle.command.specs.Payload.{Fields, head_length, payload}
use Rattle.ledger.specs.Answers as word
use Rattle.ledger.specs.Answers.{no_word, Receipt}

-- the frame of a request, "sent as DATA_SEQ"
abbrev pub frame_for : (fields : Fields) (id : ℕ) (bytes : List ℕ) (seq : ℕ) → List ℕ
frame_for f id bytes seq = message data_seq seq (payload f id bytes)

-- what the three receives answer: to the ACK, to the first piece, and to the second, with which the response is there
abbrev pub to_ack : (seq : ℕ) → Receipt
to_ack seq = record { item = item (items.message ack seq 0); word = no_word; taken = total 0; replied = 0; ending = none }

abbrev pub to_first : (first : List ℕ) → Receipt
to_first first = record { item = more; word = no_word; taken = length first; replied = 0; ending = none }

abbrev pub to_second : Fields → (id seq : ℕ) (answer second : List ℕ) → Receipt
to_second back id seq answer second = record {
  item = item (items.message data_seq seq (head_length + length answer));
  word = word.Word.response (record { fields = back; rqid = id; length = length answer });
  taken = length second;
  replied = total 0;
  ending = some (record { id = id; cause = word.Cause.response });
}
