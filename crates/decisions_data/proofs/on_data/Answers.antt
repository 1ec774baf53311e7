-- `decisions_data::on_data` meets its contract: by what the reader answered and by the RQID.
use Rattle.std.proofs.Common.{rules, sym, ap, ◌∙◌, length}
use Rattle.decisions_data.proofs.Commands.{data_none, data_event, data_other}
use Rattle.decisions_data.proofs.on_data.Goals as goal

pub returns-in_default : goal.returns-in_default
returns-in_default c = (
  λ l clock store same r. rw c.says.ensures (data_none l clock c.args.payload.now c.read.ensures c.in_default.is),
  search rules,
)

pub returns-then-is_event : goal.returns-then-is_event
returns-then-is_event c = (
  λ l clock store same r.
      rw c.says-then-is_event.ensures
      (data_event l clock c.args.payload.now c.read.ensures c.in-Some.is
      (ap length c.data-len.ensures)
      r
      (sym c.is_event.ensures ∙ c.if-is_event.true)),
  search rules,
)

pub returns : goal.returns
returns c = (
  λ l clock store same r.
      data_other l clock c.args.payload.now c.read.ensures c.in-Some.is
      (ap length c.data-len.ensures)
      r
      (sym c.is_event.ensures ∙ c.if-is_event.false)
      c.on_response.result
      (c.on_response.ensures.0 l clock store c.args.payload.now same),
  c.on_response.ensures.1,
)
