-- `audit::audit_row` meets its contract: the walk of `RowWalks.antt`, with the table that the closure keeps.
use Rattle.std.proofs.Common.{rules, arith, refl, subst, map}
use Rattle.std.specs.Iterator.{AlwaysYields}
use Rattle.std.proofs.lemmas.Fn.{slice_gives, fronts}
use Rattle.audit.specs.contracts.fn.audit_row.position as closure
use Rattle.audit.proofs.Walks.{walk_starts}
use Rattle.audit.proofs.RowWalks.{row_walk}
use Rattle.audit.proofs.audit_row.Goals as goal

pub returns : goal.returns
returns g c =
    let ran = c.position.ensures.ran in
    let over : closure.Over = record { T = g.row.T; T-HasId = g.T.HasId; T-HasId-dict = g.T.HasId-dict } in
    let id_of = g.T.HasId.id_of in
    let row = map id_of c.args.row.now in
    row_walk id_of c.args.reserved row fronts c.position.new.self _ (λ f. (closure.captures over f).seen) (λ f. (closure.captures over f).reserved) (λ p q x b call. search rules)
    c.args.row.now 0 c.iter.result _ (subst (AlwaysYields fronts (λ x. x.now) c.iter.result) c.iter.ensures.rest (slice_gives c.iter.result)) refl (walk_starts c.args.reserved row) _ _ (omega arith) _ _ _ ran.3 ran.4 ran.5
