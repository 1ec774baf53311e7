-- `live_ids::first_free` meets its contract. The loop's invariant: the first free ID from here on, with so many still to pass over,
-- is the one that is looked for.
use Prim.Native.Nat.{◌-◌}
use mathlib.Core.Path.{◌≡◌}
use lib.ListN.{length}
use Rattle.ledger.specs.Submitting.{first_free}
use Rattle.endpoint.specs.Malformed.{bare_of}
use Rattle.live_ids.proofs.first_free.Given as goal

abbrev pub invariant-loop : goal.invariant-loop
invariant-loop l =
    first_free (length l.rows - l.index) l.reserved (bare_of l.rows) l.id.0 ≡ first_free (length l.rows) l.reserved (bare_of l.rows) l.fn.from.0
