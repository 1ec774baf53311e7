-- `decisions_data::on_response` meets its contract: by the row that was found.
use Rattle.std.proofs.Common.{rules, tests, ◌≡◌, sym, ◌∙◌}
use Rattle.std.specs.List.{position}
use Rattle.std.proofs.lemmas.Iterator.{YieldsList-from_slice}
use Rattle.std.proofs.lemmas.Iterator.Search.{position_from_yields_List}
use Rattle.decisions_data.proofs.Commands.{answered, response_unmatched, response_ends}
use Rattle.decisions_data.proofs.on_response.Goals.{After-position}
use Rattle.decisions_data.proofs.on_response.Goals as goal

-- the row that the search answers
searched : (c : After-position) → c.position.result ≡ position (answered c.args.it) c.args.rows.now
searched c =
    position_from_yields_List (answered c.args.it) _ _ c.position.result c.position.ensures.ran (YieldsList-from_slice _ c.iter.ensures.rest)
    (λ x b q k. search (rules, tests))

pub returns-in_default : goal.returns-in_default
returns-in_default c =
    let a = c.args in
    let at = searched (goal.at.returns-in_default c).After-position in (
      λ l clock store payload same.
          rw c.says.ensures (response_unmatched l clock store payload a.rows.now same a.it (sym at ∙ c.in_default.is)),
      search rules,
    )

pub returns : goal.returns
returns c =
    let a = c.args in
    let at = searched (goal.at.returns c).After-position in (
      λ l clock store payload same. response_ends l clock store payload a.rows.now same a.it c.in-Some.row (sym at ∙ c.in-Some.is),
      search rules,
    )
