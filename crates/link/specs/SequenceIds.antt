-- Document 01, "The ledger": "the next SEQ (starts 0, after 255 comes 0)".
use Rattle.std.specs.Prelude.{ℕ, suc, cond as if, ◌==◌}

-- "starts 0"
abbrev pub first_seq : ℕ
first_seq = 0

abbrev pub last_seq : ℕ
last_seq = 255

-- "after 255 comes 0"
unfoldable pub seq_after : ℕ → ℕ
seq_after seq = if (seq == last_seq) first_seq (suc seq)
