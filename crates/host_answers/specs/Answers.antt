-- The paper's number and values for each case of the answers (document 01, "The ledger").
use Rattle.std.specs.Prelude.{⊤, Option, Some, None, Result, Ok, Err}
use Rattle.std.proofs.Math.Option as spec
use Rattle.std.proofs.Math.Option.{none, some}
use Rattle.command.specs.declared.RequestId.{RequestId}
use Rattle.line.specs.Promises.{answer_of}
use Rattle.ledger.specs.Answers as ledger
use Rattle.ledger.specs.Answers.{Answer, refused, opened, submitted, received, polled, sent, ended, quiet}
use Rattle.ledger.specs.Promises.{ending_of, word_of, number_of}
use Rattle.ledger.specs.declared.Ending.{Ending}
use Rattle.ledger.specs.declared.Refusal.{Refusal}
use Rattle.host_answers.specs.declared.Answered.{Answered}
use Rattle.host_answers.specs.declared.Receipt.{Receipt}
use Rattle.host_answers.specs.declared.PollOutcome.{PollOutcome}
use Rattle.host_answers.specs.declared.PollOutcome.TheVariants as outcome

-- what each call answers: a value, or the refusal
abbrev pub OpenAnswer : Type 0
OpenAnswer = Result ⊤ Refusal

abbrev pub SubmitAnswer : Type 0
SubmitAnswer = Result RequestId Refusal

abbrev pub ReceiveAnswer : Type 0
ReceiveAnswer = Result Receipt Refusal

abbrev pub PollAnswer : Type 0
PollAnswer = Result PollOutcome Refusal

-- the same beside the endpoint that is handed back
abbrev pub Opened : Type 0
Opened = Answered ⊤

abbrev pub Submitted : Type 0
Submitted = Answered RequestId

abbrev pub Received : Type 0
Received = Answered Receipt

abbrev pub Polled : Type 0
Polled = Answered PollOutcome

-- open
abbrev pub open_answer_of : OpenAnswer → Answer
open_answer_of (Ok done) = opened
open_answer_of (Err r) = refused (number_of r)

-- "Submit answers the request ID."
abbrev pub submit_answer_of : SubmitAnswer → Answer
submit_answer_of (Ok id) = submitted id.0
submit_answer_of (Err r) = refused (number_of r)

-- "Every ending names its request ID and cause."
abbrev pub ended_of : Option Ending → spec.Option ledger.Ending
ended_of None = none
ended_of (Some x) = some (ending_of x)

-- "Receive answers the item of the six rules .. or *more*, the word .., the bytes taken, the reply's length"
abbrev pub receipt_of : Receipt → ledger.Receipt
receipt_of r = record {
  item = answer_of r.item;
  word = word_of r.word;
  taken = r.taken;
  replied = r.replied;
  ending = ended_of r.ending;
}

abbrev pub receive_answer_of : ReceiveAnswer → Answer
receive_answer_of (Ok r) = received (receipt_of r)
receive_answer_of (Err r) = refused (number_of r)

-- "Poll answers the sent length or the quiet time."
abbrev pub poll_answer_of : PollAnswer → Answer
poll_answer_of (Ok (outcome.Sent n)) = polled (sent n)
poll_answer_of (Ok (outcome.Ended x)) = polled (ended (ending_of x))
poll_answer_of (Ok (outcome.Quiet (Some ms))) = polled (quiet (some ms))
poll_answer_of (Ok (outcome.Quiet None)) = polled (quiet none)
poll_answer_of (Err r) = refused (number_of r)
