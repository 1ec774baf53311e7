-- `live_changes::Live::joined` meets its contract: a row is added behind the others, and its room is filled.
use mathlib.Core.Path.{refl}
use native.Mathlib.Omega.{arith}
use Rattle.live_changes.proofs.Becoming as becoming
use Rattle.live_changes.proofs.Live.joined.Goals as goal

pub invariant_of-result : goal.invariant_of-result
invariant_of-result c =
    let a = c.args in
    record { fits = becoming.fits_joined a.self.requests (omega arith) a.self.fits _ a.it (omega arith) (omega arith) refl (omega arith) }

pub returns : goal.returns
returns c =
    let a = c.args in
    becoming.joined a.self.requests (omega arith) a.self.fits _ a.it (omega arith) (omega arith) refl (omega arith)
    a.«data».now a.store.now _ (omega arith) (omega arith) c.fill.ensures
