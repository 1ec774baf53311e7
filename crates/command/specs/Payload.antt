-- Document 01, "Bytes on the line": the command payload, its fields and its data.
use Rattle.std.specs.Prelude.{ℕ, Bool, ◌&&◌, List, ◌∷◌, ◌++◌, eqb, leb, length, get_or, drop}
use Rattle.message.specs.Bytes.{le16, from_le16}

-- the fields that a caller chooses: target category, target ID, source ID, instance ID and command ID
pub record Fields : Type 0 where
  pub tc : ℕ
  pub tid : ℕ
  pub sid : ℕ
  pub iid : ℕ
  pub cid : ℕ

-- "0x80": the first byte of a command
abbrev pub command_mark : ℕ
command_mark = 0x80

-- how many bytes stand before the data: 1 + 1 + 1 + 1 + 1 + 2 + 1
abbrev pub head_length : ℕ
head_length = 8

-- "0 to 248 data bytes": the upper end, stated here alone
abbrev pub max_data : ℕ
max_data = 248

-- "0x80, TC, TID, SID, IID, RQID (2), CID, then .. data bytes"
unfoldable pub payload : Fields → (rqid : ℕ) (bytes : List ℕ) → List ℕ
payload f rqid bytes =
    command_mark ∷ f.tc ∷ f.tid ∷ f.sid ∷ f.iid ∷ (le16 rqid ++ (f.cid ∷ bytes))

-- the same, read: "LEN under 8 or first byte not 0x80: *not a command*"
unfoldable pub is_command : List ℕ → Bool
is_command xs = leb head_length (length xs) && eqb (get_or xs 0 0) command_mark

abbrev pub fields_in : List ℕ → Fields
fields_in xs = record {
  tc = get_or xs 1 0;
  tid = get_or xs 2 0;
  sid = get_or xs 3 0;
  iid = get_or xs 4 0;
  cid = get_or xs 7 0;
}

abbrev pub rqid_in : List ℕ → ℕ
rqid_in xs = from_le16 (get_or xs 5 0) (get_or xs 6 0)

abbrev pub data_in : List ℕ → List ℕ
data_in xs = drop head_length xs

-- "with equal .. TC, CID, IID, and TID and SID swapped": whether fields answer those of a request
unfoldable pub answers : (request response : Fields) → Bool
answers f g =
    eqb f.tc g.tc && (eqb f.cid g.cid && (eqb f.iid g.iid && (eqb f.tid g.sid && eqb f.sid g.tid)))
