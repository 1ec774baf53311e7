-- The laws of commands, over the definitions and the promises of `write`, `read` and `data`: what was written is read, what was read
-- is written, how long it is, and which fields answer which. Each is shown in the file that its proof cites.
use Prim.Native.Nat.{ℕ, ◌+◌, ◌≤◌, ◌<◌}
use mathlib.Core.Bool.{true}
use mathlib.Core.List.{List}
use mathlib.Core.Path.{◌≡◌, refl}
use native.Mathlib.Omega.{arith}
use lib.ListN.{length, take, drop, get_or}
use Rattle.message.specs.Bytes.{max_len}
use Rattle.command.specs.Payload.{Fields, head_length, max_data, payload, is_command, fields_in, rqid_in, data_in, answers}
use Rattle.command.specs.Promises.{Wrote, command, command_in}
use Rattle.command.proofs.Matches as matches
use Rattle.command.proofs.Payloads as payloads

-- "0x80, TC, TID, SID, IID, RQID (2), CID": a command is its eight bytes longer than its data
pub length_payload : (f : Fields) (i : ℕ) (d : List ℕ) → length (payload f i d) ≡ head_length + length d
length_payload = payloads.length_payload

-- "then 0 to 248 data bytes": the longest command is the longest payload of a frame, so that neither limit can change alone
pub longest : head_length + max_data ≡ max_len
longest = refl

pub short_enough : (f : Fields) (i : ℕ) (d : List ℕ) → length d ≤ max_data → length (payload f i d) ≤ max_len
short_enough f i d h = omega (arith, payloads.length_payload f i d)

-- what was written is read
pub is_command_law : (f : Fields) (i : ℕ) (d : List ℕ) → is_command (payload f i d) ≡ true
is_command_law = payloads.is_command_law

pub fields_read : (f : Fields) (i : ℕ) (d : List ℕ) → fields_in (payload f i d) ≡ f
fields_read = payloads.fields_read

pub rqid_read : (f : Fields) (i : ℕ) (d : List ℕ) → rqid_in (payload f i d) ≡ i
rqid_read = payloads.rqid_read

pub data_read : (f : Fields) (i : ℕ) (d : List ℕ) → data_in (payload f i d) ≡ d
data_read = payloads.data_read

pub command_read : (f : Fields) (i : ℕ) (d : List ℕ) → command_in (payload f i d) ≡ command f i
command_read = payloads.command_read

-- what was read is written
pub payload_read : (xs : List ℕ) → ((i : ℕ) → get_or xs i 0 < 256) → is_command xs ≡ true
    → payload (fields_in xs) (rqid_in xs) (data_in xs) ≡ xs
payload_read xs bytes marked = payloads.payload_read xs marked bytes

-- the same of a part that `write` has written: the bytes that it counts are the command, read as it was written, and the rest stays
pub written_command : {n i : ℕ} {f : Fields} {d entry exit : List ℕ} → Wrote n f i d entry exit → take n exit ≡ payload f i d
written_command wrote = payloads.written_command wrote

pub written_rest : {n i : ℕ} {f : Fields} {d entry exit : List ℕ} → head_length + length d ≤ length entry → Wrote n f i d entry exit
    → drop n exit ≡ drop n entry
written_rest room wrote = payloads.written_rest room wrote

-- "LEN under 8 or first byte not 0x80: *not a command*": a command has its eight bytes
pub command_long : (xs : List ℕ) → is_command xs ≡ true → head_length ≤ length xs
command_long = payloads.long

-- "with equal .. TC, CID, IID, and TID and SID swapped": exactly one choice of fields answers a request's
pub swapped_answers : (f : Fields) → answers f (matches.swapped f) ≡ true
swapped_answers = matches.swapped_answers

pub only_swapped : (f g : Fields) → answers f g ≡ true → g ≡ matches.swapped f
only_swapped = matches.only_swapped
