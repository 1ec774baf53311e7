-- `link::frame::Frame::may_go_again` meets its contract: the test is the definition.
use Rattle.std.proofs.Common.{refl}
use Rattle.link.specs.Frames.{may_go_again}
use Rattle.link.proofs.frame.Frame.may_go_again.Goals as goal

pub returns : goal.returns
unfolding may_go_again
returns c = refl
