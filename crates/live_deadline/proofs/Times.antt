-- The time to the earliest of some deadlines is the shortest of the times to each.
use Prim.Native.Nat.{ℕ, suc}
use mathlib.Core.List.{List, [], ◌∷◌}
use mathlib.Core.Option.{Option, none, some}
use mathlib.Core.Path.{◌≡◌, refl, ap}
use native.Mathlib.Omega.{arith}
use Rattle.ledger.specs.Polling.{earlier, earliest}
use Rattle.endpoint.specs.Endpoint.{requests_from}
use Rattle.endpoint.specs.Malformed.{bare_of}
use Rattle.endpoint.specs.declared.Request.{Request}
use Rattle.live_deadline.specs.Deadlines.{left_of}

pub earlier_assoc : (a b c : Option ℕ) → earlier a (earlier b c) ≡ earlier (earlier a b) c
earlier_assoc none b c = refl
earlier_assoc (some x) none c = refl
earlier_assoc (some x) (some y) none = refl
earlier_assoc (some x) (some y) (some z) = ap some (omega arith)

pub left_earlier : (clock : ℕ) (a b : Option ℕ) → left_of clock (earlier a b) ≡ earlier (left_of clock a) (left_of clock b)
left_earlier clock none b = refl
left_earlier clock (some x) none = refl
left_earlier clock (some x) (some y) = ap some (omega arith)

-- the earliest deadline is the same without the data of the requests
pub earliest_rows : (rows : List Request) (k : ℕ) (store : List ℕ) → earliest (requests_from k rows store) ≡ earliest (bare_of rows)
unfolding earliest requests_from
earliest_rows [] k store = refl
earliest_rows (q ∷ qs) k store = rw (earliest_rows qs (suc k) store)
