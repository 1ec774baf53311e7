-- The limit is the smallest number for which polling comes to rest: as many requests as may be live, all overdue, end one a poll.
use Prim.Native.Nat.{ℕ, zero, suc, ◌≤◌, ◌<◌}
use mathlib.Core.Bool.{true, false}
use mathlib.Core.List.{List, [], ◌∷◌}
use mathlib.Core.Path.{◌≡◌, refl, ap}
use native.Mathlib.Omega.{arith}
use lib.ListN.{length, replicate, length-replicate}
use borrow.Author.Tests.{ne_eqb}
use Rattle.message.specs.Bytes.{total, max_len}
use Rattle.link.specs.SequenceIds.{first_seq}
use Rattle.link.specs.Repeats.{none_seen}
use Rattle.ledger.specs.Lists.{All}
use Rattle.ledger.specs.Parts.{waiting, Request, Ledger, oldest}
use Rattle.ledger.specs.Submitting.{last_id, is_live}
use Rattle.ledger.specs.Polling as polling
use Rattle.ledger.specs.Polling.{response_time, earliest}
use Rattle.ledger.specs.Refusals.{flights, malformed}
use Rattle.ledger.specs.Runs.{outcomes_of}
use Rattle.ledger.specs.Examples as table
use Rattle.claims.specs.Resting.{polls_at, before_quiet}
use Rattle.claims.proofs.Fine.{Sound, Distinct, Fine, not_malformed}
use Rattle.claims.proofs.Resting.{polls}

-- requests with the IDs from a number down to 1, for R = 0, that have waited since 0, when their time is up
abbrev waits : (id : ℕ) → Request
waits id = record { id = id; fields = table.fields; bytes = []; wanted = true; state = waiting 0 }

unfoldable waiters : ℕ → List Request
waiters zero = []
waiters (suc n) = waits (suc n) ∷ waiters n

abbrev holding : ℕ → Ledger
holding n = record {
  reserved = 0;
  clock = response_time;
  next_seq = first_seq;
  next_id = 1;
  seen = none_seen;
  live = waiters n;
  held = [];
}

so_many : (n : ℕ) → length (waiters n) ≡ n
unfolding waiters
so_many zero = refl
so_many (suc n) = ap suc (so_many n)

none_flies : (n : ℕ) → flights (waiters n) ≡ 0
unfolding waiters flights
none_flies zero = refl
none_flies (suc n) = let rest = none_flies n in omega arith

all_sound : (n : ℕ) → n ≤ last_id → All (Sound 0 response_time) (waiters n)
unfolding waiters
all_sound zero fits = tt
all_sound (suc n) fits = (
  record {
    unreserved = record { above = omega arith; within = omega arith };
    short = omega arith;
    steady = (refl, omega arith);
  },
  all_sound n (omega arith),
)

above : (n id : ℕ) → n < id → is_live id (waiters n) ≡ false
unfolding waiters is_live
above zero id higher = refl
above (suc n) id higher = rw (ne_eqb (suc n) id (λ same. omega arith)) (above n id (omega arith))

all_distinct : (n : ℕ) → Distinct (waiters n)
unfolding waiters
all_distinct zero = tt
all_distinct (suc n) = (above n (suc n) (omega arith), all_distinct n)

holding_fine : (limit n : ℕ) → n ≤ limit → n ≤ last_id → Fine limit (holding n)
holding_fine limit n few fits =
    let count = so_many n in
    let flying = none_flies n in
    record {
      small = omega arith;
      next = record { above = omega arith; within = omega arith };
      fit = record { few = omega arith; each = all_sound n fits; distinct = all_distinct n; one = omega arith };
      held = omega arith;
    }

-- one ends a poll, then a poll is quiet
one_each : (limit n : ℕ) (outputs : List (List ℕ)) → n ≤ limit → n ≤ last_id → n < length outputs
    → All (λ o. total max_len ≤ length o) outputs
    → before_quiet (outcomes_of limit (holding n) (polls_at response_time outputs)) ≡ n
unfolding waiters outcomes_of before_quiet polling.act earliest oldest
one_each limit n [] few fits more room = absurd (omega arith)
one_each limit zero (o ∷ os) few fits more room =
    rw (polls limit response_time (holding 0) o (holding_fine limit 0 few fits) (omega arith) room.0)
one_each limit (suc n) (o ∷ os) few fits more room =
    rw (polls limit response_time (holding (suc n)) o (holding_fine limit (suc n) few fits) (omega arith) room.0)
    (ap suc (one_each limit n os (omega arith) (omega arith) (omega arith) room.1))

-- outputs with room for a frame, as many as one likes
abbrev output : List ℕ
output = replicate (total max_len) 0

abbrev outputs : ℕ → List (List ℕ)
outputs n = replicate n output

all_room : (n : ℕ) → All (λ o. total max_len ≤ length o) (outputs n)
all_room zero = tt
all_room (suc n) = (omega (arith, length-replicate {A = ℕ} (total max_len) 0), all_room n)

-- so a number that bounds them all is not below the limit, for every limit for which there are IDs
pub no_sooner : (limit : ℕ) → limit ≤ last_id → (n : ℕ)
    → ((l : Ledger) (t : ℕ) (outputs : List (List ℕ)) → malformed limit l ≡ false → l.clock ≤ t
    → All (λ output. total max_len ≤ length output) outputs → before_quiet (outcomes_of limit l (polls_at t outputs)) ≤ n)
    → limit ≤ n
no_sooner limit fits n bounds =
    let os = outputs (suc limit) in
    let room = all_room (suc limit) in
    let fine = holding_fine limit limit (omega arith) fits in
    let long = length-replicate (suc limit) output in
    let busy = one_each limit limit os (omega arith) fits (omega (arith, long)) room in
    let few = bounds (holding limit) response_time os (not_malformed limit (holding limit) fine) (omega arith) room in
    omega (arith, busy, few)
