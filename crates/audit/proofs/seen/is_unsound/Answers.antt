-- `audit::seen::is_unsound` meets its contract: a reserved ID is unsound by itself, and of another the table decides.
use Rattle.std.proofs.Common.{arith, sym, ◌∙◌}
use Rattle.audit.proofs.Tables.{judged_reserved, judged_marked}
use Rattle.audit.proofs.seen.is_unsound.Goals as goal

pub returns-then-is_reserved : goal.returns-then-is_reserved
returns-then-is_reserved c =
    let a = c.args in
    rw c.if-is_reserved.true (judged_reserved a.reserved a.id a.seen.now (sym c.is_reserved.ensures ∙ c.if-is_reserved.true))

pub returns-else-is_reserved : goal.returns-else-is_reserved
returns-else-is_reserved c =
    let a = c.args in
    judged_marked a.reserved a.id a.seen.now c.mark.new.seen c.mark.result (sym c.is_reserved.ensures ∙ c.if-is_reserved.false)
    (omega arith) (omega arith) c.mark.ensures.0 c.mark.ensures.1
