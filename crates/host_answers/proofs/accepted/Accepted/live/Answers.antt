-- `host_answers::Accepted::live` meets its contract: the rows of an endpoint that is not malformed fit.
use Rattle.std.proofs.Common.{rules}
use Rattle.refinement.proofs.Sound.{fits_of}
use Rattle.host_answers.proofs.accepted.Accepted.live.Goals as goal

pub invariant_of-result : goal.invariant_of-result
invariant_of-result c = let fits = fits_of c.args.self.now.e c.args.self.now.sound.sound in search rules
