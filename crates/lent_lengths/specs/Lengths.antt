-- How many bytes an answer says are in each lent buffer (docs/SESSION-SCRIPT.md).
use Rattle.std.specs.Prelude.{ℕ, Option, Some, None, Result, Ok, Err}
use Rattle.ledger.specs.declared.Word.{Word}
use Rattle.ledger.specs.declared.Word.TheVariants as words
use Rattle.host_answers.specs.declared.Receipt.{Receipt}
use Rattle.host_answers.specs.declared.PollOutcome.{PollOutcome}
use Rattle.host_answers.specs.declared.PollOutcome.TheVariants as outcome

-- the bytes that a word says are in the data buffer: "Events and responses put their data at the front of the lent data buffer; no
-- other item touches it."
unfoldable pub handed_by : Option Word → ℕ
handed_by None = 0
handed_by (Some words.Stray) = 0
handed_by (Some words.Repeat) = 0
handed_by (Some words.NotCommand) = 0
handed_by (Some (words.Event c)) = c.len
handed_by (Some (words.Response c)) = c.len
handed_by (Some (words.Unmatched c)) = 0

-- the bytes that an answer says are in the reply buffer, the data buffer and the output, whatever a refusal is written as
unfoldable pub reply_length : {E : Type 0} → Result Receipt E → ℕ
reply_length (Ok r) = r.replied
reply_length (Err r) = 0

unfoldable pub data_length : {E : Type 0} → Result Receipt E → ℕ
data_length (Ok r) = handed_by r.word
data_length (Err r) = 0

unfoldable pub frame_length : {E : Type 0} → Result PollOutcome E → ℕ
frame_length (Ok (outcome.Sent len)) = len
frame_length (Ok (outcome.Ended e)) = 0
frame_length (Ok (outcome.Quiet time)) = 0
frame_length (Err r) = 0
