-- Document 01, "The ledger": the repeat test, with what it remembers of the other side's frames.
use Rattle.std.specs.Prelude.{ℕ, Bool, false, ◌==◌}
use Rattle.std.proofs.Math.Option.{Option, none, some}

-- "the controller's last SEQ (none at first)"
abbrev pub Seen : Type 0
Seen = Option ℕ

abbrev pub none_seen : Seen
none_seen = none

-- "If its SEQ equals the controller's last SEQ, item *repeat*"
unfoldable pub is_repeat : Seen → (seq : ℕ) → Bool
is_repeat none seq = false
is_repeat (some last) seq = last == seq

-- "otherwise that becomes the last SEQ"
unfoldable pub seen_after : Seen → (seq : ℕ) → Seen
seen_after seen seq = some seq
