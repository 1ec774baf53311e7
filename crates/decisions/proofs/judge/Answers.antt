-- `decisions::judge` meets its contract: by the TYPE, and by whether a frame is a repeat.
use Rattle.std.proofs.Common.{sym, ◌∙◌, arith}
use Rattle.decisions.proofs.Messages.{ack_judges, nak_judges, repeat_judges, sequenced_judges, other_judges}
use Rattle.decisions.proofs.judge.Goals as goal

pub returns-in-64 : goal.returns-in-64
returns-in-64 c = ack_judges (c.in_use-rows.ensures) c.remembering.ensures c.in-64.is c.on_ack.ensures

pub returns-in-4 : goal.returns-in-4
returns-in-4 c = nak_judges c.in_use-rows.ensures c.remembering-in-4.ensures c.in-4.is c.on_nak.ensures

pub returns-in-128 : goal.returns-in-128
returns-in-128 c =
    repeat_judges c.in_use-rows.ensures c.remembering-in-128.ensures c.in-128.is c.says.ensures
    (sym c.is_repeat.ensures ∙ c.if-is_repeat.true)

pub returns-in-128-2 : goal.returns-in-128-2
returns-in-128-2 c =
    sequenced_judges c.in_use-rows.ensures c.remembering-in-128-2.ensures c.in-128.is
    (sym c.is_repeat.ensures ∙ c.if-is_repeat.false)
    c.after.ensures c.on_data.ensures

pub returns-in_default : goal.returns-in_default
returns-in_default c =
    other_judges c.in_use-rows.ensures c.remembering-in_default.ensures
    (λ is. omega arith)
    (λ is. omega arith)
    (λ is. omega arith)
    c.on_data-in_default.ensures
