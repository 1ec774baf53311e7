-- `live_changes::Live::turned` meets its contract: one row is replaced, by the same request in another state.
use mathlib.Core.List.{[]}
use native.Mathlib.Omega.{arith}
use Rattle.live_changes.proofs.Becoming as becoming
use Rattle.live_changes.proofs.Live.turned.Goals as goal

pub returns : goal.returns
returns c store =
    let a = c.args in
    becoming.turned a.self.requests (omega arith) a.self.fits a.row a.state store c.requires

pub invariant_of-result : goal.invariant_of-result
invariant_of-result c =
    let a = c.args in
    record { fits = (becoming.turned a.self.requests (omega arith) a.self.fits a.row a.state [] c.requires).fits }
