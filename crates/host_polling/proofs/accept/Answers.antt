-- `host_polling::accept` meets its contract: what `end` and `quiet` do with any output, they do with this one.
use Rattle.std.proofs.Common.{rules}
use Rattle.host_polling.proofs.accept.Goals as goal

pub returns-in-Some-End : goal.returns-in-Some-End
returns-in-Some-End c = let with-this-output = c.end.ensures c.args.output.now in search rules

pub returns-in-None : goal.returns-in-None
returns-in-None c = let with-this-output = c.quiet.ensures c.args.store.now c.args.output.now in search rules
