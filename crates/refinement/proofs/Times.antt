-- No time of an endpoint that is not malformed is later than its clock, nor than a later reading.
use Prim.Native.Nat.{ℕ, zero, suc, ◌≤◌}
use mathlib.Core.Bool.{false}
use mathlib.Core.List.{List, [], ◌∷◌}
use mathlib.Core.Path.{◌≡◌}
use native.Mathlib.Omega.{arith}
use borrow.Author.Tests.{ltb-false}
use Rattle.ledger.specs.Parts as ledger
use Rattle.ledger.specs.Parts.{queued, in_flight, waiting}
use Rattle.ledger.specs.Refusals.{some_of, is_late}
use Rattle.endpoint.specs.Endpoint.{state_of, rows_of}
use Rattle.endpoint.specs.Malformed.{bare_of, malformed}
use Rattle.endpoint.specs.declared.Request.{Request}
use Rattle.endpoint.specs.declared.Endpoint.{Endpoint}
use Rattle.std.proofs.lemmas.Bool.{or_parts}
use Rattle.endpoint.proofs.Order.{facts}
use Rattle.live_deadline.specs.Deadlines.{IsInTime, NoneLate}

module _ (now clock : ℕ) (later : now ≤ clock) where
  in_time_law : (s : ledger.State) → is_late now s ≡ false → IsInTime clock s
  in_time_law queued h = tt
  in_time_law (in_flight f) h = let sent = ltb-false now f.sent h in omega arith
  in_time_law (waiting since) h = let began = ltb-false now since h in omega arith

  all_in_time : (rows : List Request) → some_of (λ q. is_late now q.state) (bare_of rows) ≡ false → NoneLate clock rows
  unfolding some_of
  all_in_time [] h i other less = absurd (omega arith)
  all_in_time (q ∷ qs) h zero other less = in_time_law (state_of q.state) (or_parts (is_late now (state_of q.state)) _ h).0
  all_in_time (q ∷ qs) h (suc i) other less =
      all_in_time qs (or_parts (is_late now (state_of q.state)) _ h).1 i other (omega arith)

pub none_late : (e : Endpoint) (clock : ℕ) → malformed e ≡ false → e.clock ≤ clock → NoneLate clock (rows_of e.live)
none_late e clock h later = all_in_time e.clock clock later (rows_of e.live) (facts {e = e} h).times
