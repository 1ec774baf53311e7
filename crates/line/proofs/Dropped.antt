-- Held bytes that decide nothing: those that are dropped go, and the others receive the same.
use Prim.Native.Nat.{ℕ, ◌+◌, ◌≤◌}
use mathlib.Core.List.{List, [], append-nil}
use mathlib.Core.Path.{◌≡◌, sym, ap, ◌∙◌}
use native.Mathlib.Omega.{arith}
use lib.ListN.{length, take, drop, drop_of_length-le}
use lib.Seq.{length-take-le}
use Rattle.message.specs.Items.{Scan, undecided, decided, dropped, scan}
use Rattle.message.proofs.Dropping.{dropped_within}
use Rattle.line.specs.Receiving.{held_max, receive}
use Rattle.line.proofs.Gives.{undecided_left}
use Rattle.line.proofs.Joined.{later, scan_joined}
use Rattle.std.proofs.lemmas.List.{drop-take}
use Rattle.line.proofs.Taking.{receive_dropped}

left_by : (d : ℕ) (s : Scan) → undecided d ≡ later d s → s ≡ undecided 0
left_by d (undecided e) h = let sum : d ≡ d + e = cc in ap undecided (omega arith)
left_by d (decided i e r) h = let z : ◌≡◌ {A = ℕ} 0 1 = cc in absurd (omega arith)

-- what is left decides nothing and drops nothing
pub left_waits : (xs : List ℕ) {d : ℕ} → scan xs ≡ undecided d → scan (drop d xs) ≡ undecided 0
left_waits xs {d} h =
    let same : d ≡ dropped xs = (undecided_left xs h).0 in
    let joined : scan xs ≡ later d (scan (drop d xs)) =
    rw same (rw (append-nil xs, append-nil (drop (dropped xs) xs)) at (scan_joined xs [])) in
    left_by d (scan (drop d xs)) (sym h ∙ joined)

-- and receives the same
pub left_receives : (held new : List ℕ) {d : ℕ} → scan held ≡ undecided d → receive held new ≡ receive (drop d held) new
left_receives held new h = rw (undecided_left held h).0 (receive_dropped held new)

module _ (count d : ℕ) (array : List ℕ) (size : length array ≡ held_max) (within : count ≤ held_max)
    (none : scan (take count array) ≡ undecided d) where
  length_held : length (take count array) ≡ count
  length_held = length-take-le count array (omega arith)

  pub drops : d ≤ count
  drops = omega (arith, undecided_left (take count array) none, dropped_within (take count array), length_held)

  -- nothing is left
  pub all_dropped : (new : List ℕ) → count ≡ d → receive (take count array) new ≡ receive [] new
  all_dropped new same =
      rw (drop_of_length-le (take count array) {i = d} (omega (arith, length_held))) at (left_receives (take count array) new none)

  -- some are left
  module _ (kept : ℕ) (sum : d + kept ≡ count) where
    there : take kept (drop d array) ≡ drop d (take count array)
    there = rw (← sum) (sym (drop-take d kept array))

    pub waits : scan (take kept (drop d array)) ≡ undecided 0
    waits = rw there (left_waits (take count array) none)

    pub receives : (new : List ℕ) → receive (take count array) new ≡ receive (take kept (drop d array)) new
    receives new = rw there (left_receives (take count array) new none)
