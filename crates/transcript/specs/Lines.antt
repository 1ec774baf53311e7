-- The answer to each call as text (docs/SESSION-SCRIPT.md), in the order of the answer's parts. Where a call may be refused, `number`
-- gives the refusal's number.
use Rattle.std.specs.Prelude.{ℕ, ◌+◌, Bool, true, false, List, ◌++◌, ⊤, Option, Some, None, Result, Ok, Err, length}
use Rattle.command.specs.declared.RequestId.{RequestId}
use Rattle.message.specs.declared.Item.{Item}
use Rattle.message.specs.declared.Item.TheVariants.{DamagedHeader, Forbidden, DamagedPayload, Message}
use Rattle.ledger.specs.declared.Command.{Command}
use Rattle.ledger.specs.declared.Word.{Word}
use Rattle.ledger.specs.declared.Word.TheVariants as words
use Rattle.ledger.specs.declared.Ending.{Ending}
use Rattle.host_answers.specs.declared.Receipt.{Receipt}
use Rattle.host_answers.specs.declared.PollOutcome.{PollOutcome}
use Rattle.host_answers.specs.declared.PollOutcome.TheVariants as outcome
use Rattle.texts.specs.Text.{ascii, named, shown_as, pairs_room}
use Rattle.transcript_parts.specs.Parts.{fields_text, ending_text}

-- a message, with TYPE, SEQ and LEN, or what was found in its place
unfoldable pub one_text : Item → List ℕ
one_text DamagedHeader = ascii "damaged-header"
one_text Forbidden = ascii "forbidden"
one_text DamagedPayload = ascii "damaged-payload"
one_text (Message type seq len) = named (ascii "message ") type ++ (named (ascii " ") seq.0 ++ named (ascii " ") len)

-- the item, or that more bytes are wanted
unfoldable pub item_text : Option Item → List ℕ
item_text None = ascii "more"
item_text (Some i) = one_text i

-- a command behind its word: its fields, RQID and the length of its data
unfoldable pub command_text : List ℕ → Command → List ℕ
command_text w c = w ++ (fields_text c.fields ++ (named (ascii " ") c.id.0 ++ named (ascii " ") c.len))

-- the word that a message earned, if any
unfoldable pub word_text : Option Word → List ℕ
word_text None = ascii " none"
word_text (Some words.Stray) = ascii " stray"
word_text (Some words.Repeat) = ascii " repeat"
word_text (Some words.NotCommand) = ascii " not-a-command"
word_text (Some (words.Event c)) = command_text (ascii " event") c
word_text (Some (words.Response c)) = command_text (ascii " response") c
word_text (Some (words.Unmatched c)) = command_text (ascii " unmatched") c

-- a length and bytes behind a name
unfoldable pub lent_text : List ℕ → ℕ → List ℕ → List ℕ
lent_text name len bytes = named name len ++ (ascii " " ++ shown_as bytes)

-- the ending that a receive reports
unfoldable pub ended_text : Option Ending → List ℕ
ended_text None = ascii " no-ending"
ended_text (Some e) = ascii " " ++ ending_text e

-- open
unfoldable pub open_text : {E : Type 0} → (number : E → ℕ) → Result ⊤ E → List ℕ
open_text number (Ok done) = ascii "opened"
open_text number (Err r) = named (ascii "open refused ") (number r)

-- submit
unfoldable pub submit_text : {E : Type 0} → (number : E → ℕ) → Result RequestId E → List ℕ
submit_text number (Ok id) = named (ascii "submitted ") id.0
submit_text number (Err r) = named (ascii "submit refused ") (number r)

-- receive: the item and the word
unfoldable pub judged_text : Option Item → Option Word → List ℕ
judged_text i w = ascii "received " ++ (item_text i ++ word_text w)

-- then the bytes taken, the reply, the data and the ending
unfoldable pub receipt_text : Receipt → List ℕ → List ℕ → List ℕ
receipt_text r reply bytes =
    judged_text r.item r.word
    ++ (named (ascii " taken ") r.taken
    ++ (lent_text (ascii " reply ") r.replied reply
    ++ (lent_text (ascii " data ") (length bytes) bytes
    ++ ended_text r.ending)))

unfoldable pub receive_text : {E : Type 0} → (number : E → ℕ) → Result Receipt E → List ℕ → List ℕ → List ℕ
receive_text number (Ok r) reply bytes = receipt_text r reply bytes
receive_text number (Err r) reply bytes = named (ascii "receive refused ") (number r)

-- poll
unfoldable pub poll_text : {E : Type 0} → (number : E → ℕ) → Result PollOutcome E → List ℕ → List ℕ
poll_text number (Ok (outcome.Sent len)) frame = lent_text (ascii "sent ") len frame
poll_text number (Ok (outcome.Ended e)) frame = ending_text e
poll_text number (Ok (outcome.Quiet (Some ms))) frame = named (ascii "quiet ") ms
poll_text number (Ok (outcome.Quiet None)) frame = ascii "no-deadline"
poll_text number (Err r) frame = named (ascii "poll refused ") (number r)

-- the end of a line, and whether bytes were touched that should not have been
unfoldable pub end_text : Bool → List ℕ
end_text true = ascii " touched\n"
end_text false = ascii "\n"

-- room for each, in bytes: a number is given 20
abbrev pub item_room : ℕ
item_room = 70

abbrev pub command_room : List ℕ → ℕ
command_room w = length w + 147

abbrev pub word_room : ℕ
word_room = 157

abbrev pub judged_room : ℕ
judged_room = 236

abbrev pub lent_room : List ℕ → List ℕ → ℕ
lent_room name bytes = length name + (22 + pairs_room bytes)

abbrev pub ended_room : ℕ
ended_room = 46

abbrev pub open_room : ℕ
open_room = 33

abbrev pub submit_room : ℕ
submit_room = 35

abbrev pub receive_room : List ℕ → List ℕ → ℕ
receive_room reply bytes = 366 + (pairs_room reply + pairs_room bytes)

abbrev pub poll_room : List ℕ → ℕ
poll_room frame = 45 + pairs_room frame

abbrev pub end_room : ℕ
end_room = 9
