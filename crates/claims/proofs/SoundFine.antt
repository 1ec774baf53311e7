-- A ledger that is not malformed is fine: the tests of the malformed rule turned into facts, one a clause.
use Prim.Native.Nat.{ℕ, suc, ◌≤◌}
use mathlib.Core.Bool.{Bool, false, ◌&&◌, ◌||◌}
use mathlib.Core.List.{List, [], ◌∷◌}
use mathlib.Core.Path.{◌≡◌}
use lib.Dec.{leb, ltb}
use lib.ListN.{length}
use borrow.Author.Tests.{ltb-false, leb-true, not-false}
use Rattle.message.proofs.Headers.{both}
use Rattle.line.specs.Receiving.{held_max}
use Rattle.command.specs.Payload.{max_data}
use Rattle.link.specs.Frames.{max_transmissions}
use Rattle.ledger.specs.Lists.{All}
use Rattle.ledger.specs.Parts.{reserved_max, State, queued, in_flight, waiting, Request, Ledger}
use Rattle.ledger.specs.Submitting.{last_id, is_live}
use Rattle.ledger.specs.Refusals.{some_of, is_outside, two_equal, flights, wrongly_often, waits_for_nothing, is_late, malformed}
use Rattle.ledger.proofs.FreeId.{Unreserved}
use Rattle.claims.proofs.Fine.{Steady, Sound, Distinct, Fine, neither}

-- what a ledger that is not malformed keeps to, clause by clause
pub record Clauses (limit : ℕ) (l : Ledger) : Type 0 where
  pub reserved : l.reserved ≤ reserved_max
  pub few : length l.live ≤ limit
  pub ids : some_of (λ q. is_outside l.reserved q.id) l.live ≡ false
  pub next : is_outside l.reserved l.next_id ≡ false
  pub unequal : two_equal l.live ≡ false
  pub flying : flights l.live ≤ 1
  pub often : some_of (λ q. wrongly_often q.state) l.live ≡ false
  pub short : some_of (λ q. ltb max_data (length q.bytes)) l.live ≡ false
  pub wants : some_of (λ q. waits_for_nothing q.wanted q.state) l.live ≡ false
  pub times : some_of (λ q. is_late l.clock q.state) l.live ≡ false
  pub held : length l.held ≤ held_max

pub clauses : (limit : ℕ) (l : Ledger) → malformed limit l ≡ false → Clauses limit l
unfolding malformed
clauses limit l h =
    let live = l.live in
    let small = neither (ltb reserved_max l.reserved) _ h in
    let few = neither (ltb limit (length live)) _ small.1 in
    let ids = neither (some_of (λ q. is_outside l.reserved q.id) live || is_outside l.reserved l.next_id) _ few.1 in
    let id = neither (some_of (λ q. is_outside l.reserved q.id) live) (is_outside l.reserved l.next_id) ids.0 in
    let unequal = neither (two_equal live) _ ids.1 in
    let flying = neither (ltb 1 (flights live)) _ unequal.1 in
    let often = neither (some_of (λ q. wrongly_often q.state) live) _ flying.1 in
    let short = neither (some_of (λ q. ltb max_data (length q.bytes)) live) _ often.1 in
    let wants = neither (some_of (λ q. waits_for_nothing q.wanted q.state) live) _ short.1 in
    let times = neither (some_of (λ q. is_late l.clock q.state) live) _ wants.1 in
    record {
      reserved = ltb-false reserved_max l.reserved small.0;
      few = ltb-false limit (length live) few.0;
      ids = id.0;
      next = id.1;
      unequal = unequal.0;
      flying = ltb-false 1 (flights live) flying.0;
      often = often.0;
      short = short.0;
      wants = wants.0;
      times = times.0;
      held = ltb-false held_max (length l.held) times.1;
    }

-- an ID that is not outside
inside : (r id : ℕ) → is_outside r id ≡ false → Unreserved r id
inside r id h =
    let in_both = both (leb (suc r) id) (leb id last_id) (not-false (leb (suc r) id && leb id last_id) h) in
    record { above = leb-true (suc r) id in_both.0; within = leb-true id last_id in_both.1 }

-- a state that fails none of the three tests
steady : (t : ℕ) (w : Bool) (s : State) → wrongly_often s ≡ false → waits_for_nothing w s ≡ false → is_late t s ≡ false → Steady t w s
steady t w queued often wants late = tt
steady t w (in_flight f) often wants late =
    let n = f.transmissions in
    let in_both = both (leb 1 n) (leb n max_transmissions) (not-false (leb 1 n && leb n max_transmissions) often) in
    (leb-true 1 n in_both.0, leb-true n max_transmissions in_both.1, ltb-false t f.sent late)
steady t w (waiting since) often wants late = (not-false w wants, ltb-false t since late)

-- the live requests, one after the other
all_sound : (r t : ℕ) (live : List Request) → some_of (λ q. is_outside r q.id) live ≡ false
    → some_of (λ q. wrongly_often q.state) live ≡ false → some_of (λ q. ltb max_data (length q.bytes)) live ≡ false
    → some_of (λ q. waits_for_nothing q.wanted q.state) live ≡ false → some_of (λ q. is_late t q.state) live ≡ false
    → All (Sound r t) live
unfolding some_of
all_sound r t [] ids often short wants times = tt
all_sound r t (q ∷ qs) ids often short wants times =
    let id = neither (is_outside r q.id) _ ids in
    let count = neither (wrongly_often q.state) _ often in
    let size = neither (ltb max_data (length q.bytes)) _ short in
    let waits = neither (waits_for_nothing q.wanted q.state) _ wants in
    let time = neither (is_late t q.state) _ times in (
      record {
        unreserved = inside r q.id id.0;
        short = ltb-false max_data (length q.bytes) size.0;
        steady = steady t q.wanted q.state count.0 waits.0 time.0;
      },
      all_sound r t qs id.1 count.1 size.1 waits.1 time.1,
    )

all_distinct : (live : List Request) → two_equal live ≡ false → Distinct live
unfolding two_equal
all_distinct [] h = tt
all_distinct (q ∷ qs) h = let parts = neither (is_live q.id qs) (two_equal qs) h in (parts.0, all_distinct qs parts.1)

pub fine_of : (limit : ℕ) (l : Ledger) → malformed limit l ≡ false → Fine limit l
fine_of limit l h =
    let k = clauses limit l h in
    record {
      small = k.reserved;
      next = inside l.reserved l.next_id k.next;
      fit = record {
        few = k.few;
        each = all_sound l.reserved l.clock l.live k.ids k.often k.short k.wants k.times;
        distinct = all_distinct l.live k.unequal;
        one = k.flying;
      };
      held = k.held;
    }
