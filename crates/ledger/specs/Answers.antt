-- Document 01, "The ledger": what the calls answer.
use Rattle.std.specs.Prelude.{ℕ, List}
use Rattle.std.proofs.Math.Option.{Option}
use Rattle.command.specs.Payload.{Fields}
use Rattle.line.specs.Receiving as line
use Rattle.ledger.specs.Parts.{Ledger}

-- the causes of an ending
pub data Cause : Type 0 where
  acknowledged : Cause
  response : Cause
  no_response : Cause
  no_acknowledgement : Cause

-- "Every ending names its request ID and cause."
pub record Ending : Type 0 where
  pub id : ℕ
  pub cause : Cause

-- "for an event, a response or *unmatched*, the command's fields and data length"
pub record Command : Type 0 where
  pub fields : Fields
  pub rqid : ℕ
  pub length : ℕ

-- "the word below that a message earns, if any"
pub data Word : Type 0 where
  no_word : Word
  stray : Word
  repeat : Word
  not_command : Word
  event : Command → Word
  response : Command → Word
  unmatched : Command → Word

-- "Receive answers the item of the six rules .. or *more*, the word .., the bytes taken, the reply's length"; and its ending
pub record Receipt : Type 0 where
  pub item : line.Answer
  pub word : Word
  pub taken : ℕ
  pub replied : ℕ
  pub ending : Option Ending

-- "Poll answers the sent length or the quiet time", "*no deadline*" where that is none; or an ending
pub data Poll : Type 0 where
  sent : (length : ℕ) → Poll
  ended : Ending → Poll
  quiet : (time : Option ℕ) → Poll

-- the answers of all calls: "Submit answers the request ID"; a refusal "hands back its number"
pub data Answer : Type 0 where
  refused : (number : ℕ) → Answer
  opened : Answer
  submitted : (id : ℕ) → Answer
  received : Receipt → Answer
  polled : Poll → Answer

-- what a call comes to: its answer, "the whole contents of every lent buffer afterwards", and the ledger afterwards
pub record Done : Type 0 where
  pub answer : Answer
  pub buffers : List (List ℕ)
  pub next : Ledger
