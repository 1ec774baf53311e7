-- Document 01, "The ledger": the frame in flight. It belongs to a line, and whose it is does not matter here.
use Rattle.std.specs.Prelude.{ℕ, suc, ◌+◌, ◌-◌, Bool, true, false, ◌||◌, ◌==◌, nat_le, nat_lt}

-- "in flight (SEQ, transmissions, last sent, NAK mark)"
pub record Frame : Type 0 where
  pub seq : ℕ
  pub transmissions : ℕ
  pub sent : ℕ
  pub marked : Bool

-- "fewer than 3 transmissions": how often a frame goes out at most, stated here alone
abbrev pub max_transmissions : ℕ
max_transmissions = 3

-- "at least 1,000 ms": how long after a transmission the next is due
abbrev pub resend_time : ℕ
resend_time = 1000

-- "is sent .. with the next SEQ, transmissions 1"
abbrev pub first_sent : (seq clock : ℕ) → Frame
first_sent seq clock = record { seq = seq; transmissions = 1; sent = clock; marked = false }

-- NAK: "marks the frame in flight"
abbrev pub with_mark : Frame → Frame
with_mark f = record { seq = f.seq; transmissions = f.transmissions; sent = f.sent; marked = true }

-- "ACK with the SEQ in flight"
abbrev pub acknowledged_by : Frame → (seq : ℕ) → Bool
acknowledged_by f seq = f.seq == seq

-- "due if marked, or if clock minus last sent is at least 1,000 ms"
unfoldable pub due : Frame → (clock : ℕ) → Bool
due f clock = f.marked || nat_le resend_time (clock - f.sent)

-- "Due with fewer than 3 transmissions: sent again"; it is given up where this is false
unfoldable pub may_go_again : Frame → Bool
may_go_again f = nat_lt f.transmissions max_transmissions

-- "sent again, the same bytes, mark cleared"
abbrev pub sent_again : Frame → (clock : ℕ) → Frame
sent_again f clock = record { seq = f.seq; transmissions = suc f.transmissions; sent = clock; marked = false }

-- when it is due without a mark
abbrev pub deadline : Frame → ℕ
deadline f = f.sent + resend_time

-- "the milliseconds to the earliest such deadline": how long until then, 0 where it has passed
abbrev pub left : Frame → (clock : ℕ) → ℕ
left f clock = deadline f - clock
