-- The malformed rule as facts, and the code's order of tests: it answers as the rule does.
use Prim.Native.Nat.{ℕ, ◌≤◌}
use mathlib.Core.Bool.{Bool, true, false, true≢false, not, ◌&&◌, ◌||◌, and-eq-true_iff}
use mathlib.Core.List.{List, [], ◌∷◌}
use mathlib.Core.Path.{◌≡◌, refl, sym}
use lib.Dec.{leb, ltb}
use borrow.Author.Tests.{ltb-false, le-ltb, leb-true, le-leb, not-false}
use Rattle.std.proofs.lemmas.Bool.{or_parts}
pub use Rattle.std.proofs.lemmas.Bool.{or_parts as neither}
use Rattle.line.specs.Receiving.{held_max}
use Rattle.command.specs.Payload.{max_data}
use Rattle.link.specs.Frames.{max_transmissions}
use Rattle.ledger.specs.Parts as ledger
use Rattle.ledger.specs.Parts.{reserved_max, live_max, queued, in_flight, waiting}
use Rattle.ledger.specs.Submitting.{is_live}
use Rattle.ledger.specs.Refusals.{some_of, is_outside, two_equal, flights, wrongly_often, waits_for_nothing, is_late}
use Rattle.endpoint.specs.Code.{bad_state, bad_request, some_bad}
use Rattle.endpoint.specs.Endpoint.{state_of, rows_of}
use Rattle.endpoint.specs.Malformed.{bare_of, too_long, malformed}
use Rattle.endpoint.specs.declared.Request.{Request}
use Rattle.endpoint.specs.declared.Endpoint.{Endpoint}

-- what an endpoint that is not malformed keeps to, clause by clause
pub record Facts (e : Endpoint) : Type 0 where
  pub reserved : e.reserved ≤ reserved_max
  pub few : e.live.count ≤ live_max
  pub ids : some_of (λ q. is_outside e.reserved q.id) (bare_of (rows_of e.live)) ≡ false
  pub next : is_outside e.reserved e.next.0 ≡ false
  pub unequal : two_equal (bare_of (rows_of e.live)) ≡ false
  pub flying : flights (bare_of (rows_of e.live)) ≤ 1
  pub often : some_of (λ q. wrongly_often q.state) (bare_of (rows_of e.live)) ≡ false
  pub short : too_long (rows_of e.live) ≡ false
  pub wants : some_of (λ q. waits_for_nothing q.wanted q.state) (bare_of (rows_of e.live)) ≡ false
  pub times : some_of (λ q. is_late e.clock q.state) (bare_of (rows_of e.live)) ≡ false
  pub held : e.held ≤ held_max

-- two tests that are false together are the same
same : (a b : Bool) → (a ≡ false → b ≡ false) → (b ≡ false → a ≡ false) → a ≡ b
same true true f g = refl
same true false f g = g refl
same false true f g = sym (f refl)
same false false f g = refl

pub from_facts : {e : Endpoint} → Facts e → malformed e ≡ false
unfolding malformed
from_facts {e} f =
    rw (
      le-ltb reserved_max e.reserved f.reserved,
      le-ltb live_max e.live.count f.few,
      f.ids,
      f.next,
      f.unequal,
      le-ltb 1 (flights (bare_of (rows_of e.live))) f.flying,
      f.often,
      f.short,
      f.wants,
      f.times,
      le-ltb held_max e.held f.held,
    )

pub facts : {e : Endpoint} → malformed e ≡ false → Facts e
unfolding malformed
facts {e} h =
    let rows = rows_of e.live in
    let live = bare_of rows in
    let r = e.reserved in
    let a = or_parts (ltb reserved_max r) _ h in
    let b = or_parts (ltb live_max e.live.count) _ a.1 in
    let c = or_parts (some_of (λ q. is_outside r q.id) live || is_outside r e.next.0) _ b.1 in
    let i = or_parts (some_of (λ q. is_outside r q.id) live) _ c.0 in
    let d = or_parts (two_equal live) _ c.1 in
    let f = or_parts (ltb 1 (flights live)) _ d.1 in
    let o = or_parts (some_of (λ q. wrongly_often q.state) live) _ f.1 in
    let s = or_parts (too_long rows) _ o.1 in
    let w = or_parts (some_of (λ q. waits_for_nothing q.wanted q.state) live) _ s.1 in
    let t = or_parts (some_of (λ q. is_late e.clock q.state) live) _ w.1 in
    record {
      reserved = ltb-false reserved_max r a.0;
      few = ltb-false live_max e.live.count b.0;
      ids = i.0;
      next = i.1;
      unequal = d.0;
      flying = ltb-false 1 (flights live) f.0;
      often = o.0;
      short = s.0;
      wants = w.0;
      times = t.0;
      held = ltb-false held_max e.held t.1;
    }

-- an endpoint that does not keep to them is malformed
pub must_be : (e : Endpoint) → (Facts e → ⊥) → malformed e ≡ true
must_be e no-facts = same (malformed e) true (λ h. absurd (no-facts (facts h))) (λ h. absurd (true≢false h))

-- what the code's tests of the rows leave to be true
record Clear (r clock : ℕ) (rows : List Request) : Type 0 where
  ids : some_of (λ q. is_outside r q.id) (bare_of rows) ≡ false
  unequal : two_equal (bare_of rows) ≡ false
  often : some_of (λ q. wrongly_often q.state) (bare_of rows) ≡ false
  short : too_long rows ≡ false
  wants : some_of (λ q. waits_for_nothing q.wanted q.state) (bare_of rows) ≡ false
  times : some_of (λ q. is_late clock q.state) (bare_of rows) ≡ false

-- the code's test of a state is the rule's three
module _ (clock : ℕ) (wanted : Bool) where
  state_clear : (s : ledger.State) → bad_state clock wanted s ≡ false
      → (wrongly_often s ≡ false) × (waits_for_nothing wanted s ≡ false) × (is_late clock s ≡ false)
  state_clear queued h = (refl, refl, refl)
  state_clear (in_flight f) h =
      let t = f.transmissions in
      let parts = or_parts (ltb t 1 || ltb max_transmissions t) (ltb clock f.sent) h in
      let sent = or_parts (ltb t 1) (ltb max_transmissions t) parts.0 in
      (rw (le-leb 1 t (ltb-false t 1 sent.0), le-leb t max_transmissions (ltb-false max_transmissions t sent.1)), refl, parts.1)
  state_clear (waiting since) h = let parts = or_parts (not wanted) (ltb clock since) h in (refl, parts.0, parts.1)

  state_good : (s : ledger.State) → wrongly_often s ≡ false → waits_for_nothing wanted s ≡ false → is_late clock s ≡ false
      → bad_state clock wanted s ≡ false
  state_good queued often wants time = refl
  state_good (in_flight f) often wants time =
      let t = f.transmissions in
      let sent = (and-eq-true_iff (leb 1 t) (leb t max_transmissions)).0 (not-false (leb 1 t && leb t max_transmissions) often) in
      rw (le-ltb t 1 (leb-true 1 t sent.0), le-ltb max_transmissions t (leb-true t max_transmissions sent.1)) time
  state_good (waiting since) often wants time = rw wants time

-- the code's tests of all rows are the rule's
module _ (r clock : ℕ) where
  clear : (rows : List Request) → some_bad r clock rows ≡ false → Clear r clock rows
  unfolding some_bad bad_request some_of two_equal too_long
  clear [] h = record { ids = refl; unequal = refl; often = refl; short = refl; wants = refl; times = refl }
  clear (q ∷ rows) h =
      let parts = or_parts (bad_request r clock q) _ h in
      let more = or_parts (is_live q.id.0 (bare_of rows)) _ parts.1 in
      let own = or_parts (is_outside r q.id.0) _ parts.0 in
      let rest = or_parts (ltb max_data q.len) _ own.1 in
      let state = state_clear clock q.wanted (state_of q.state) rest.1 in
      let later = clear rows more.1 in
      record {
        ids = rw own.0 later.ids;
        unequal = rw more.0 later.unequal;
        often = rw state.0 later.often;
        short = rw rest.0 later.short;
        wants = rw state.1 later.wants;
        times = rw state.2 later.times;
      }

  good : (rows : List Request) → Clear r clock rows → some_bad r clock rows ≡ false
  unfolding some_bad bad_request some_of two_equal too_long
  good [] h = refl
  good (q ∷ rows) h =
      let s = state_of q.state in
      let id = or_parts (is_outside r q.id.0) _ h.ids in
      let same = or_parts (is_live q.id.0 (bare_of rows)) _ h.unequal in
      let often = or_parts (wrongly_often s) _ h.often in
      let short = or_parts (ltb max_data q.len) _ h.short in
      let wants = or_parts (waits_for_nothing q.wanted s) _ h.wants in
      let time = or_parts (is_late clock s) _ h.times in
      let state = state_good clock q.wanted s often.0 wants.0 time.0 in
      let later : Clear r clock rows = record {
        ids = id.1;
        unequal = same.1;
        often = often.1;
        short = short.1;
        wants = wants.1;
        times = time.1;
      } in
      rw (id.0, short.0, state, same.0) (good rows later)

-- where the other tests pass, the rows decide
pub rows_decide : (e : Endpoint) → e.reserved ≤ reserved_max → e.live.count ≤ live_max → is_outside e.reserved e.next.0 ≡ false
    → e.held ≤ held_max → flights (bare_of (rows_of e.live)) ≤ 1 → some_bad e.reserved e.clock (rows_of e.live) ≡ malformed e
rows_decide e reserved few next held flying =
    let rows = rows_of e.live in
    same (some_bad e.reserved e.clock rows) (malformed e)
    (λ h. from_facts (whole (clear e.reserved e.clock rows h)))
    (λ h. good e.reserved e.clock rows (part (facts h)))
  where
    whole : Clear e.reserved e.clock (rows_of e.live) → Facts e
    whole c = record {
      reserved = reserved;
      few = few;
      ids = c.ids;
      next = next;
      unequal = c.unequal;
      flying = flying;
      often = c.often;
      short = c.short;
      wants = c.wants;
      times = c.times;
      held = held;
    }

    part : Facts e → Clear e.reserved e.clock (rows_of e.live)
    part f = record { ids = f.ids; unequal = f.unequal; often = f.often; short = f.short; wants = f.wants; times = f.times }
