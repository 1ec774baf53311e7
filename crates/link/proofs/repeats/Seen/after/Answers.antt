-- `link::repeats::Seen::after` meets its contract: what is made is the definition.
use Rattle.std.proofs.Common.{refl}
use Rattle.link.specs.Repeats.{seen_after}
use Rattle.link.proofs.repeats.Seen.after.Goals as goal

pub returns : goal.returns
unfolding seen_after
returns c = refl
