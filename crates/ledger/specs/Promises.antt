-- The paper's values for the enums and the structs that an endpoint answers.
use Rattle.std.specs.Prelude.{ℕ, Option, Some, None}
use Rattle.ledger.specs.Answers as spec
use Rattle.ledger.specs.declared.Cause.{Cause}
use Rattle.ledger.specs.declared.Cause.TheVariants.{Acknowledged, Response, NoResponse, NoAcknowledgement}
use Rattle.ledger.specs.declared.Ending.{Ending}
use Rattle.ledger.specs.declared.Command.{Command}
use Rattle.ledger.specs.declared.Refusal.{Refusal}
use Rattle.ledger.specs.declared.Refusal.TheVariants.{Malformed, ClockBelow, ReservedOver, DataOver, AllLive, BufferShort}
use Rattle.ledger.specs.declared.Word.{Word}
use Rattle.ledger.specs.declared.Word.TheVariants as word
use Rattle.command.specs.Promises.{fields_of}

-- the causes
abbrev pub cause_of : Cause → spec.Cause
cause_of Acknowledged = spec.acknowledged
cause_of Response = spec.Cause.response
cause_of NoResponse = spec.no_response
cause_of NoAcknowledgement = spec.no_acknowledgement

-- "Every ending names its request ID and cause."
abbrev pub ending_of : Ending → spec.Ending
ending_of x = record { id = x.id.0; cause = cause_of x.cause }

-- "the command's fields and data length"
abbrev pub command_of : Command → spec.Command
command_of c = record { fields = fields_of c.fields; rqid = c.id.0; length = c.len }

-- "the word below that a message earns, if any"
abbrev pub word_of : Option Word → spec.Word
word_of None = spec.no_word
word_of (Some word.Stray) = spec.stray
word_of (Some word.Repeat) = spec.repeat
word_of (Some word.NotCommand) = spec.not_command
word_of (Some (word.Event c)) = spec.event (command_of c)
word_of (Some (word.Response c)) = spec.Word.response (command_of c)
word_of (Some (word.Unmatched c)) = spec.unmatched (command_of c)

-- "Refusal numbers, tested in this order"
abbrev pub number_of : Refusal → ℕ
number_of Malformed = 1
number_of ClockBelow = 2
number_of ReservedOver = 3
number_of DataOver = 4
number_of AllLive = 5
number_of BufferShort = 6
