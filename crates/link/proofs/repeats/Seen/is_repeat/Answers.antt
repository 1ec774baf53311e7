-- `link::repeats::Seen::is_repeat` meets its contract: by what was seen.
use Rattle.std.proofs.Common.{rules}
use Rattle.link.specs.Repeats.{is_repeat}
use Rattle.link.proofs.repeats.Seen.is_repeat.Goals as goal

pub returns : goal.returns
unfolding is_repeat
returns c = search rules
