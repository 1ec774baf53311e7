-- The rows of an endpoint and the live requests of its ledger differ in their data alone: every test that does not look at data says
-- the same of both.
use Prim.Native.Nat.{ℕ, suc, ◌+◌, ◌≤◌}
use mathlib.Core.Bool.{Bool, false, ◌||◌}
use mathlib.Core.List.{List, [], ◌∷◌}
use mathlib.Core.Path.{◌≡◌, refl, ap}
use native.Mathlib.Omega.{arith}
use lib.Dec.{ltb}
use lib.ListN.{length, length-take}
use borrow.Author.Tests.{ltb-false, le-ltb}
use Rattle.command.specs.Payload.{max_data}
use Rattle.ledger.specs.Parts as ledger
use Rattle.ledger.specs.Refusals.{some_of, two_equal, flies_once, flights}
use Rattle.endpoint.specs.Endpoint.{state_of, room_at, requests_from}
use Rattle.endpoint.specs.Malformed.{bare_of, too_long}
use Rattle.endpoint.specs.declared.Request.{Request}
use Rattle.std.proofs.lemmas.Bool.{or_parts}
use Rattle.endpoint.proofs.Listed.{live_rows}

module _ (store : List ℕ) where
  -- a test of the ID, of whether a response is wanted, and of the state
  pub same_some : (test : ℕ → Bool → ledger.State → Bool) (i : ℕ) (rows : List Request)
      → some_of (λ q. test q.id q.wanted q.state) (requests_from i rows store)
      ≡ some_of (λ q. test q.id q.wanted q.state) (bare_of rows)
  unfolding requests_from some_of
  same_some test i [] = refl
  same_some test i (q ∷ qs) = ap (test q.id.0 q.wanted (state_of q.state) ||◌) (same_some test (suc i) qs)

  pub same_equal : (i : ℕ) (rows : List Request) → two_equal (requests_from i rows store) ≡ two_equal (bare_of rows)
  unfolding requests_from two_equal
  same_equal i [] = refl
  same_equal i (q ∷ qs) = rw (live_rows q.id.0 qs (suc i) store, same_equal (suc i) qs)

  pub same_flights : (i : ℕ) (rows : List Request) → flights (requests_from i rows store) ≡ flights (bare_of rows)
  unfolding requests_from flights
  same_flights i [] = refl
  same_flights i (q ∷ qs) = ap (flies_once (state_of q.state) +◌) (same_flights (suc i) qs)

  -- the data of a request is no longer than its row says
  pub short_data : (i : ℕ) (rows : List Request) → too_long rows ≡ false
      → some_of (λ q. ltb max_data (length q.bytes)) (requests_from i rows store) ≡ false
  unfolding requests_from some_of too_long
  short_data i [] h = refl
  short_data i (q ∷ qs) h =
      let parts = or_parts (ltb max_data q.len) (too_long qs) h in
      let row : q.len ≤ max_data = ltb-false max_data q.len parts.0 in
      let bytes : length (room_at store i q.len) ≤ max_data = simp length-take (omega arith) in
      rw (le-ltb max_data (length (room_at store i q.len)) bytes) (short_data (suc i) qs parts.1)
