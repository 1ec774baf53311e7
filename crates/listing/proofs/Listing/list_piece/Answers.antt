-- `listing::Listing::list_piece` meets its contract: after each item, what is left comes to what all of the piece comes to. It ends: each
-- item leaves fewer bytes, held or in the rest.
use native.Mathlib.Omega.{arith}
use lib.ListN.{length-take, length-drop}
use Rattle.listing.proofs.Turn.{taken_short, fewer_held, left_next, left_fails, sent_next, sent_more, counted, on_err}
use Rattle.listing.proofs.Listing.list_piece.Goals as goal

pub returns-in_default-clause-written : goal.returns-in_default-clause-written
returns-in_default-clause-written g c =
    let r = c.receive-received in
    sent_more r.result _ _ _ r.ensures c.in_default.is _ _ c.loop-item.invariant.1

pub returns-in_err-add_line-clause-fails : goal.returns-in_err-add_line-clause-fails
returns-in_err-add_line-clause-fails g c =
    let r = c.receive-received in
    on_err c.from_residual.result
    (left_fails r.result _ _ _ r.ensures _ c.in-Some.is _ _ c.loop-item.invariant.0 (omega arith) c.in_err-add_line.ensures.fails)

pub loop-item-smaller : goal.loop-item-smaller
loop-item-smaller g c =
    let r = c.receive-received in
    let short = taken_short r.result _ _ _ r.ensures _ c.in-Some.is in
    let fewer = fewer_held r.result _ _ _ r.ensures _ c.in-Some.is in
    simp (length-take, length-drop) (omega (arith, short, fewer, counted c.loop-item.self.count c.loop-item.self.held))

pub loop-item-preserved : goal.loop-item-preserved
loop-item-preserved g c =
    let r = c.receive-received in
    let l = c.loop-item.invariant in
    let a = c.in_ok-add_line.ensures in (
      left_next r.result _ _ _ r.ensures _ c.in-Some.is _ _ l.0 a.joins,
      sent_next r.result _ _ _ r.ensures _ c.in-Some.is _ _ l.0 l.1 a.joins a.written,
    )
