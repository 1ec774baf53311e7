-- `host_acting::decide_in` meets its contract: the front of the store is lent.
use Rattle.host_answers.proofs.Held.{decided_in}
use Rattle.host_acting.proofs.decide_in.Goals as goal

pub returns : goal.returns
returns c =
    let front = (rw c.unwrap.ensures at c.first_chunk_mut.ensures.cases).same in
    let p = c.decide.ensures in
    decided_in _ c.args.store.now p.long _ c.args.held c.args.bytes.now c.requires.1 (rw front at p.decides)
