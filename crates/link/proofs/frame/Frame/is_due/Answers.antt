-- `link::frame::Frame::is_due` meets its contract: marked, or by the difference, which is 0 where the clock is earlier.
use Rattle.std.proofs.Common.{rules}
use Rattle.link.specs.Frames.{due}
use Rattle.link.proofs.frame.Frame.is_due.Goals as goal

pub returns-then-self : goal.returns-then-self
unfolding due
returns-then-self c = search rules

pub returns-else-self : goal.returns-else-self
unfolding due
returns-else-self c = search rules
