-- `decisions_data::is_event` meets its contract: the tests of the code are those of the definition.
use borrow.Author.Tests.{le-leb, lt-leb}
use Rattle.decisions_data.proofs.is_event.Goals as goal

pub returns-then-id-ge1 : goal.returns-then-id-ge1
returns-then-id-ge1 c = rw (le-leb 1 c.args.id.0 c.if-id-ge1.true)

pub returns-else-id-ge1 : goal.returns-else-id-ge1
returns-else-id-ge1 c = rw (lt-leb 1 c.args.id.0 c.if-id-ge1.false)
