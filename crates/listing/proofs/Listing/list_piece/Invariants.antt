-- `listing::Listing::list_piece` meets its contract: after each item, what is left comes to what all of the piece comes to. It ends: each
-- item leaves fewer bytes, held or in the rest.
use Prim.Native.Nat.{◌+◌}
use lib.ListN.{length}
use Rattle.listing.specs.Promises.{out_room}
use Rattle.listing.specs.Reached.{standing}
use Rattle.listing.proofs.Turn.{Left, Sent}
use Rattle.listing.proofs.Listing.list_piece.Given as goal

abbrev pub invariant-loop-item : goal.invariant-loop-item
invariant-loop-item g l =
    Left out_room (standing l.initial.self) l.piece (standing l.self) l.rest
    × Sent out_room (standing l.initial.self) l.piece (standing l.self) l.rest
    (g.W.Write.contents l.initial.output) (g.W.Write.contents l.output)

abbrev pub decreases-loop-item : goal.decreases-loop-item
decreases-loop-item g l = l.self.count + length l.rest
