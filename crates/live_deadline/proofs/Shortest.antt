-- The shortest of the times to the deadlines of some requests is the time to the earliest of them.
use Prim.Native.Nat.{ℕ, ◌-◌}
use mathlib.Core.List.{List, [], ◌∷◌}
use mathlib.Core.Option.{Option, none, some}
use mathlib.Core.Path.{◌≡◌, refl, sym, ap, ◌∙◌}
use Rattle.std.specs.Prelude as std
use Rattle.std.specs.Prelude.{None, Some, min}
use Rattle.std.specs.Option.{option_map}
use Rattle.std.specs.List.{fold, reduce, filter_map}
use Rattle.ledger.specs.Polling.{deadline_in, earlier, earliest}
use Rattle.endpoint.specs.Endpoint.{state_of}
use Rattle.endpoint.specs.Malformed.{bare_of}
use Rattle.endpoint.specs.declared.Request.{Request}
use Rattle.live_deadline.specs.Deadlines.{time_of, left_of}
use Rattle.live_deadline.proofs.Times.{earlier_assoc, left_earlier}

-- a time as the code has it
abbrev in_code : Option ℕ → std.Option ℕ
in_code none = None
in_code (some ms) = Some ms

pub as_in_code : (r : std.Option ℕ) (time : Option ℕ) → time_of r ≡ time → r ≡ in_code time
as_in_code None time h = ap in_code h
as_in_code (Some ms) time h = ap in_code h

pub as_time : (r s : std.Option ℕ) → option_map (λ ms. ms) r ≡ s → time_of r ≡ time_of s
as_time None s h = ap time_of h
as_time (Some ms) s h = ap time_of h

-- the time to a request's deadline
abbrev pub own_time : (clock : ℕ) → Request → std.Option ℕ
own_time clock q = in_code (left_of clock (deadline_in (state_of q.state)))

module _ (clock : ℕ) where
  -- the shortest of a time and of those to the deadlines
  abbrev Shorter : List Request → Type 0
  Shorter qs = (ms : ℕ) → some (fold min ms (filter_map (own_time clock) qs)) ≡ earlier (some ms) (left_of clock (earliest (bare_of qs)))

  module _ (q : Request) (qs : List Request) where
    abbrev later : Option ℕ
    later = earliest (bare_of qs)

    shorter_by : (own : Option ℕ) → deadline_in (state_of q.state) ≡ own → Shorter qs → (ms : ℕ)
        → some (fold min ms (filter_map (own_time clock) (q ∷ qs))) ≡ earlier (some ms) (left_of clock (earlier own later))
    shorter_by none is rest ms = rw is (rest ms)
    shorter_by (some d) is rest ms =
        rw (is, left_earlier clock (some d) later)
        (rest (min ms (d - clock)) ∙ sym (earlier_assoc (some ms) (some (d - clock)) (left_of clock later)))

    shortest_by : (own : Option ℕ) → deadline_in (state_of q.state) ≡ own → Shorter qs
        → time_of (reduce min (filter_map (own_time clock) qs)) ≡ left_of clock later
        → time_of (reduce min (filter_map (own_time clock) (q ∷ qs))) ≡ left_of clock (earlier own later)
    shortest_by none is among rest = rw is rest
    shortest_by (some d) is among rest = rw (is, left_earlier clock (some d) later) (among (d - clock))

  shorter : (qs : List Request) → Shorter qs
  unfolding earliest
  shorter [] ms = refl
  shorter (q ∷ qs) ms = shorter_by q qs (deadline_in (state_of q.state)) refl (shorter qs) ms

  pub shortest : (rows : List Request) → time_of (reduce min (filter_map (own_time clock) rows)) ≡ left_of clock (earliest (bare_of rows))
  unfolding earliest
  shortest [] = refl
  shortest (q ∷ qs) = shortest_by q qs (deadline_in (state_of q.state)) refl (shorter qs) (shortest qs)
