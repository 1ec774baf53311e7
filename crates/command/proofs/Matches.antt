-- Fields answer others exactly when they are the others with TID and SID swapped: the five tests, one by one.
use mathlib.Core.Bool.{true, ◌&&◌}
use mathlib.Core.Path.{◌≡◌, refl}
use lib.Dec.{eqb}
use borrow.Author.Tests.{eq-eqb, eqb-true}
use Rattle.message.proofs.Headers.{both}
use Rattle.command.specs.Payload.{Fields, answers}

-- the fields of the one response that a request expects
abbrev pub swapped : Fields → Fields
swapped f = record { tc = f.tc; tid = f.sid; sid = f.tid; iid = f.iid; cid = f.cid }

pub swapped_answers : (f : Fields) → answers f (swapped f) ≡ true
unfolding answers
swapped_answers f =
    rw (
      eq-eqb f.tc f.tc refl,
      eq-eqb f.cid f.cid refl,
      eq-eqb f.iid f.iid refl,
      eq-eqb f.tid f.tid refl,
      eq-eqb f.sid f.sid refl,
    )

pub only_swapped : (f g : Fields) → answers f g ≡ true → g ≡ swapped f
unfolding answers
only_swapped f g h =
    let t1 = both (eqb f.tc g.tc)
    (eqb f.cid g.cid && (eqb f.iid g.iid && (eqb f.tid g.sid && eqb f.sid g.tid))) h in
    let t2 = both (eqb f.cid g.cid) (eqb f.iid g.iid && (eqb f.tid g.sid && eqb f.sid g.tid)) t1.1 in
    let t3 = both (eqb f.iid g.iid) (eqb f.tid g.sid && eqb f.sid g.tid) t2.1 in
    let t4 = both (eqb f.tid g.sid) (eqb f.sid g.tid) t3.1 in
    rw (
      eqb-true f.tc g.tc t1.0,
      eqb-true f.cid g.cid t2.0,
      eqb-true f.iid g.iid t3.0,
      eqb-true f.tid g.sid t4.0,
      eqb-true f.sid g.tid t4.1,
    )
