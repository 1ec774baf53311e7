-- `host_polling::quiet` meets its contract: the time to the earliest deadline, or none.
use Rattle.host_sending.proofs.Stepping.{quiet_law}
use Rattle.host_polling.proofs.quiet.Goals as goal

pub returns : goal.returns
returns c store output =
    quiet_law c.args.accepted store c.time_left-time.result output c.time_left-time.ensures
