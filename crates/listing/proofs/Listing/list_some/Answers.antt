-- `listing::Listing::list_some` meets its contract: where a write failed, of the piece that was read.
use Rattle.std.proofs.Common.{rules}
use Rattle.std.proofs.lemmas.Result.{err_from_is_err_and}
use Rattle.listing.proofs.Onward.{write_failed}
use Rattle.listing.proofs.Listing.list_some.Goals as goal

pub returns-in_err-map_err-clause-lists_some : goal.returns-in_err-map_err-clause-lists_some
returns-in_err-map_err-clause-lists_some g c =
    let p = err_from_is_err_and c.from_residual-in_err-map_err.result c.from_residual-in_err-map_err.ensures.1 in
    rw (p.1, p.2) (write_failed c.list_piece.result _ c.list_piece.ensures.fails c.map_err-2.ensures.cases (λ e f h. search rules) c.in_err-map_err.was)
