-- `link::sequence::next` meets its contract: the sum that wraps is the SEQ after, by the law.
use Rattle.std.proofs.Common.{sym, arith}
use Rattle.link.proofs.Laws.{after_wraps}
use Rattle.link.proofs.sequence.next.Goals as goal

pub returns : goal.returns
returns c = sym (after_wraps c.args.seq.0 (omega arith))
