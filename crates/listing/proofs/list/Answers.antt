-- `listing::list` meets its contract: what is written one after the other is the listing of all that was read.
use Rattle.listing.proofs.Whole.{whole, on_ok}
use Rattle.listing.proofs.list.Goals as goal

pub returns : goal.returns
returns g c =
    let first = on_ok c.write_all.result c.map_err.result c.map_err.ensures.variant (λ written. written) c.write_all.ensures.bytes in
    let begun = rw c.in_ok-map_err.was at first in
    on_ok c.finish.result c.map_err-2.result c.map_err-2.ensures.variant
    (λ finished. whole _ _ begun (c.in_default.ensures.moves_all c.new-listing.ensures) finished) c.finish.ensures
