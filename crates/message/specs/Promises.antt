-- The paper's number and values for each case of the enums that the code answers, and what the functions promise.
use Rattle.std.specs.Prelude.{ℕ, List, ◌≡◌, length, Option, None, Some, Result, Ok, Err}
use Rattle.message.specs.Bytes.{message}
use Rattle.message.specs.Items as items
use Rattle.message.specs.Items.{Scan, undecided, decided}
use Rattle.message.specs.Writing.{forbidden_header, no_room, Answer, accepted, refused, written, after}
use Rattle.message.specs.declared.WriteError.{WriteError}
use Rattle.message.specs.declared.WriteError.TheVariants.{Forbidden, NoRoom}
use Rattle.message.specs.declared.Item.{Item}
use Rattle.message.specs.declared.Item.TheVariants as item
use Rattle.message.specs.declared.FirstItem.{FirstItem}
use Rattle.message.specs.declared.Reading.{Reading}

-- the writer's answers
abbrev pub answer_of : Result ℕ WriteError → Answer
answer_of (Ok n) = accepted n
answer_of (Err Forbidden) = refused forbidden_header
answer_of (Err NoRoom) = refused no_room

-- what a writer promises of its answer and of its buffer, at entry and at exit
pub record Wrote (answer : Result ℕ WriteError) (place type seq len : ℕ) (payload entry exit : List ℕ) : Type 0 where
  pub answers : answer_of answer ≡ written (length entry) place type seq len
  pub leaves : exit ≡ after (answer_of answer) place (message type seq payload) entry

-- the reader's items
abbrev pub item_of : Item → items.Item
item_of item.DamagedHeader = items.damaged_header
item_of item.Forbidden = items.forbidden
item_of item.DamagedPayload = items.damaged_payload
item_of (item.Message kind seq len) = items.message kind seq.0 len

-- the reader's answers
abbrev pub scan_with : (dropped : ℕ) → Option FirstItem → Scan
scan_with n None = undecided n
scan_with n (Some f) = decided (item_of f.item) n f.removed

abbrev pub scan_of : Reading → Scan
scan_of r = scan_with r.dropped r.first
