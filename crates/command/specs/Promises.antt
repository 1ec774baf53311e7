-- The paper's values for the structs and enums of the code, and what the writer promises.
use Rattle.std.specs.Prelude.{ℕ, ◌+◌, cond as if, List, Option, Some, None, ◌≡◌, length}
use Rattle.message.specs.Writing.{placed}
use Rattle.command.specs.Payload as spec
use Rattle.command.specs.Payload.{head_length, payload, is_command, fields_in, rqid_in}
use Rattle.command.specs.declared.Fields.{Fields}
use Rattle.command.specs.declared.Head.{Head}

-- the fields of a command
abbrev pub fields_of : Fields → spec.Fields
fields_of f = record { tc = f.tc; tid = f.tid; sid = f.sid; iid = f.iid; cid = f.cid }

-- what the writer promises of its answer, and of the part at entry and at exit: the command at the front, and the rest as it was
pub record Wrote (count : ℕ) (fields : spec.Fields) (rqid : ℕ) (bytes entry exit : List ℕ) : Type 0 where
  pub answers : count ≡ head_length + length bytes
  pub leaves : exit ≡ placed 0 (payload fields rqid bytes) entry

-- what a payload says: "*not a command*", or a command's fields and RQID
pub data Command : Type 0 where
  not_command : Command
  command : spec.Fields → (rqid : ℕ) → Command

unfoldable pub command_in : List ℕ → Command
command_in xs = if (is_command xs) (command (fields_in xs) (rqid_in xs)) not_command

-- the reader's answers
abbrev pub command_of : Option Head → Command
command_of None = not_command
command_of (Some head) = command (fields_of head.fields) head.id.0
