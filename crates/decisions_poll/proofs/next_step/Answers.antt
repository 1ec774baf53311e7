-- `decisions_poll::next_step` meets its contract: each `return` is a case of what the searches found.
use Rattle.std.proofs.Common.{rules, tests, ◌≡◌, sym, ap, subst, ◌∙◌}
use Rattle.std.specs.List.{position}
use Rattle.endpoint.specs.Endpoint.{rows_of}
use Rattle.live_search.specs.Searching.{IsFlight}
use Rattle.live_search.proofs.Found.{first_row}
use Rattle.decisions_poll.proofs.Stepped.{overdue, waits, steps_overdue, steps_frame, steps_first, no_step}
use Rattle.decisions_poll.proofs.next_step.Goals.{After-position, After-flying, After-position-2}
use Rattle.decisions_poll.proofs.next_step.Goals as goal

-- what the searches answer
overdue_at : (c : After-position) → c.position.result ≡ position (overdue c.args.clock) (rows_of c.args.live)
overdue_at c =
    first_row (overdue c.args.clock) c.position.result c.in_use-rows.result.now (search (rules, tests))
    ∙ ap (position (overdue c.args.clock)) c.in_use-rows.ensures

flying_at : (c : After-flying) → IsFlight c.flying.result (rows_of c.args.live)
flying_at c = subst (IsFlight c.flying.result) c.in_use-rows.ensures c.flying.ensures

queued_at : (c : After-position-2) → c.position-2.result ≡ position waits (rows_of c.args.live)
queued_at c =
    first_row waits c.position-2.result c.in_use-rows.result.now (search (rules, tests))
    ∙ ap (position waits) c.in_use-rows.ensures

pub returns-in-Some : goal.returns-in-Some
returns-in-Some c =
    let at = goal.at.returns-in-Some c in
    steps_overdue c.args.live c.args.clock c.in-Some.overdue (sym (overdue_at at.After-position) ∙ c.in-Some.is)

pub returns-in-Some-flying : goal.returns-in-Some-flying
returns-in-Some-flying c =
    let at = goal.at.returns-in-Some-flying c in
    steps_frame c.args.live c.args.clock c.in-Some-flying.row
    (sym (overdue_at at.After-position) ∙ c.in_default.is)
    (rw c.in-Some-flying.is at (flying_at at.After-flying))
    c.frame_step.result
    c.frame_step.ensures

pub returns-in_err-queued : goal.returns-in_err-queued
returns-in_err-queued c =
    let at = goal.at.returns-in_err-queued c in
    rw c.from_residual.ensures (no_step c.args.live c.args.clock 0
    (sym (overdue_at at.After-position) ∙ c.in_default.is)
    (rw c.in_default-flying.is at (flying_at at.After-flying))
    (sym (queued_at at.After-position-2) ∙ c.in_err-queued.was))

pub returns : goal.returns
returns c =
    let at = goal.at.returns c in
    steps_first c.args.live c.args.clock c.in_ok-queued.queued
    (sym (overdue_at at.After-position) ∙ c.in_default.is)
    (rw c.in_default-flying.is at (flying_at at.After-flying))
    (sym (queued_at at.After-position-2) ∙ c.in_ok-queued.was)
