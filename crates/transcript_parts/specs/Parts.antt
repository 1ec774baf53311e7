-- A command's fields and an ending as text (docs/SESSION-SCRIPT.md).
use Rattle.std.specs.Prelude.{ℕ, List, ◌++◌}
use Rattle.command.specs.declared.Fields.{Fields}
use Rattle.ledger.specs.declared.Cause.{Cause}
use Rattle.ledger.specs.declared.Cause.TheVariants.{Acknowledged, Response, NoResponse, NoAcknowledgement}
use Rattle.ledger.specs.declared.Ending.{Ending}
use Rattle.texts.specs.Text.{ascii, named}

-- TC, TID and SID
unfoldable pub address_text : Fields → List ℕ
address_text f = named (ascii " ") f.tc ++ (named (ascii " ") f.tid ++ named (ascii " ") f.sid)

-- these, then IID and CID
unfoldable pub fields_text : Fields → List ℕ
fields_text f = address_text f ++ (named (ascii " ") f.iid ++ named (ascii " ") f.cid)

-- why a request ended
unfoldable pub cause_text : Cause → List ℕ
cause_text Acknowledged = ascii " acknowledged"
cause_text Response = ascii " response"
cause_text NoResponse = ascii " no-response"
cause_text NoAcknowledgement = ascii " no-acknowledgement"

-- an ending
unfoldable pub ending_text : Ending → List ℕ
ending_text e = named (ascii "ended ") e.id.0 ++ cause_text e.cause

-- room for each, in bytes: a number is given 20
abbrev pub address_room : ℕ
address_room = 63

abbrev pub fields_room : ℕ
fields_room = 105

abbrev pub cause_room : ℕ
cause_room = 19

abbrev pub ending_room : ℕ
ending_room = 45
