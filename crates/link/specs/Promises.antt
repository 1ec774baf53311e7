-- The paper's values for the structs and enums of the code: each function promises an equation with them.
use Rattle.link.specs.Frames as frames
use Rattle.link.specs.Repeats as repeats
use Rattle.std.specs.Prelude.{Option, Some, None}
use Rattle.std.proofs.Math.Option.{none, some}
use Rattle.message.specs.declared.Seq.{Seq}
use Rattle.link.specs.declared.frame.Frame.{Frame}
use Rattle.link.specs.declared.repeats.Seen.{Seen}

-- the frame in flight: "SEQ, transmissions, last sent, NAK mark"
abbrev pub frame_of : Frame → frames.Frame
frame_of f = record { seq = f.seq.0; transmissions = f.transmissions; sent = f.sent; marked = f.marked }

-- what is remembered for the repeat test: "the controller's last SEQ (none at first)"
abbrev pub last_of : Option Seq → repeats.Seen
last_of None = none
last_of (Some seq) = some seq.0

abbrev pub seen_of : Seen → repeats.Seen
seen_of s = last_of s.last
