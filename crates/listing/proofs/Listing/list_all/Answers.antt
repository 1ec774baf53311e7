-- `listing::Listing::list_all` meets its contract: each piece goes on from what was read before.
use mathlib.Core.Bool.{true}
use Rattle.std.proofs.lemmas.Result.{err_from_is_err_and}
use Rattle.std.specs.Prelude.{Ok, Err}
use Rattle.listing.proofs.Onward.{lists_none, onward, moves_none, moves_on}
use Rattle.listing.proofs.Listing.list_all.Goals as goal

pub loop-init : goal.loop-init
loop-init g c = λ begins. rw begins (lists_none _, moves_none _ _ _)

pub returns-in_err-list_some-clause-lists_all : goal.returns-in_err-list_some-clause-lists_all
returns-in_err-list_some-clause-lists_all g c = λ begins.
    let p = err_from_is_err_and c.from_residual.result c.from_residual.ensures.1 in
    rw (p.1, p.2) (onward (Err c.in_err-list_some.field-0.0) (c.loop.invariant begins).0 c.in_err-list_some.ensures.lists_some)

pub returns-in_err-list_some-clause-moves_all : goal.returns-in_err-list_some-clause-moves_all
returns-in_err-list_some-clause-moves_all g c = λ begins.
    let p = err_from_is_err_and c.from_residual.result c.from_residual.ensures.1 in
    rw (p.1, p.2) (moves_on (Err c.in_err-list_some.field-0.0) (c.loop.invariant begins).1 c.in_err-list_some.ensures.moves_some)

pub loop-preserved : goal.loop-preserved
loop-preserved g c = λ begins.
    let l = c.loop.invariant begins in
    let more = c.if-not-branch.false in
    let s = c.in_ok-list_some.ensures in
    (onward (Ok true) l.0 (rw more at s.lists_some), moves_on (Ok true) l.1 (rw more at s.moves_some))
