-- `listing::Listing::list_all` meets its contract: each piece goes on from what was read before.
use mathlib.Core.Path.{◌≡◌}
use Rattle.std.specs.Prelude.{Err}
use Rattle.listing.specs.Moving.{MovesAll}
use Rattle.listing.specs.Promises.{out_room, ListsAll}
use Rattle.listing.specs.Reached.{standing}
use Rattle.listing.specs.Standing.{fresh}
use Rattle.streams.specs.declared.failure.Failure.TheVariants.{Endless}
use Rattle.listing.proofs.Listing.list_all.Given as goal

abbrev pub invariant-loop : goal.invariant-loop
invariant-loop g l = standing l.initial.self ≡ fresh
    → ListsAll (Err Endless) out_room (standing l.self)
    × MovesAll (Err Endless) out_room (standing l.self) (g.R.Read.remaining l.initial.input) (g.R.Read.remaining l.input)
    (g.W.Write.contents l.initial.output) (g.W.Write.contents l.output)
