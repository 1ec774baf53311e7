-- The live requests that rows and a store stand for: as many as rows, the one in a row, and whether an ID is among them.
use Prim.Native.Nat.{ℕ, zero, suc, ◌+◌, ◌<◌}
use mathlib.Core.List.{List, [], ◌∷◌}
use mathlib.Core.Path.{◌≡◌, refl, ap}
use native.Mathlib.Nat.{add-zero}
use native.Mathlib.Omega.{arith}
use lib.ListN.{length, get_or}
use Rattle.ledger.specs.Submitting.{is_live}
use Rattle.endpoint.specs.Endpoint.{room_at, request_of, requests_from}
use Rattle.endpoint.specs.Malformed.{bare_of}
use Rattle.endpoint.specs.Places.{blank}
use Rattle.endpoint.specs.declared.Request.{Request}
use Rattle.endpoint.proofs.Rows.{blank_row}

pub length_requests : (k : ℕ) (qs : List Request) (s : List ℕ) → length (requests_from k qs s) ≡ length qs
unfolding requests_from
length_requests k [] s = refl
length_requests k (q ∷ qs) s = ap suc (length_requests (suc k) qs s)

pub requests_at : (k i : ℕ) (qs : List Request) (s : List ℕ) → i < length qs
    → get_or (requests_from k qs s) i blank ≡ request_of (get_or qs i blank_row) (room_at s (k + i) (get_or qs i blank_row).len)
unfolding requests_from
requests_at k i [] s h = absurd (omega arith)
requests_at k zero (q ∷ qs) s h = rw (add-zero k)
requests_at k (suc i) (q ∷ qs) s h =
    let sum : suc k + i ≡ k + suc i = omega arith in
    rw sum at (requests_at (suc k) i qs s (omega arith))

-- an ID is live whatever the data are
pub live_rows : (id : ℕ) (rows : List Request) (k : ℕ) (store : List ℕ) → is_live id (requests_from k rows store) ≡ is_live id (bare_of rows)
unfolding is_live requests_from
live_rows id [] k store = refl
live_rows id (q ∷ qs) k store = rw (live_rows id qs (suc k) store)
