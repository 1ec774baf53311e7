-- `host::opening::fresh` meets its contract: the numbers are a fresh endpoint's.
use mathlib.Core.Path.{refl}
use native.Mathlib.Omega.{arith}
use Rattle.host.proofs.Fresh.{made}
use Rattle.host.proofs.opening.fresh.Goals as goal

pub returns : goal.returns
returns c =
    made _ c.args.reserved c.default.ensures.1 c.from.ensures refl c.first.ensures c.first_id.ensures c.none.ensures refl
    (omega arith)
