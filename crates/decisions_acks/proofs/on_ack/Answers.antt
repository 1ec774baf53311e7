-- `decisions_acks::on_ack` meets its contract: by the row that was found, and by whether it wants a response.
use Rattle.std.proofs.Common.{rules, tests, ◌≡◌, sym, ◌∙◌}
use Rattle.std.specs.List.{position}
use Rattle.live_search.proofs.Found.{first_row}
use Rattle.decisions_acks.proofs.Flights.{acknowledges, ack_stray, ack_waits, ack_ends}
use Rattle.decisions_acks.proofs.on_ack.Goals.{After-position}
use Rattle.decisions_acks.proofs.on_ack.Goals as goal

-- the row that the search answers
searched : (c : After-position) → c.position.result ≡ position (acknowledges c.args.seq.0) c.args.rows.now
searched c = first_row (acknowledges c.args.seq.0) c.position.result c.args.rows.now (search (rules, tests))

pub returns-in_default : goal.returns-in_default
returns-in_default c =
    let a = c.args in
    let at = searched (goal.at.returns-in_default c).After-position in (
      λ l store payload same. rw c.says.ensures (ack_stray l a.clock store payload a.rows.now same a.seq.0 (sym at ∙ c.in_default.is)),
      search rules,
    )

pub returns-then-rows-row : goal.returns-then-rows-row
returns-then-rows-row c =
    let a = c.args in
    let at = searched (goal.at.returns-then-rows-row c).After-position in (
      λ l store payload same.
          ack_waits l a.clock store payload a.rows.now same a.seq.0 c.in-Some.row
          (sym at ∙ c.in-Some.is)
          c.if-rows-row.true,
      search rules,
    )

pub returns-else-rows-row : goal.returns-else-rows-row
returns-else-rows-row c =
    let a = c.args in
    let at = searched (goal.at.returns-else-rows-row c).After-position in (
      λ l store payload same.
          ack_ends l a.clock store payload a.rows.now same a.seq.0 c.in-Some.row
          (sym at ∙ c.in-Some.is)
          c.if-rows-row.false,
      search rules,
    )
