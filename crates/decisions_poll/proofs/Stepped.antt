-- What the searches of a poll found says which of its steps applies: each is one case of "does the first that applies".
use Prim.Native.Nat.{ℕ, ◌<◌}
use mathlib.Core.Bool.{Bool, true, false, cond as if}
use mathlib.Core.List.{List}
use mathlib.Core.Option.{none, some}
use mathlib.Core.Path.{◌≡◌, refl, sym, ◌∙◌}
use native.Mathlib.Omega.{arith}
use lib.ListN.{length, take}
use Rattle.std.specs.Prelude.{Option, Some, None}
use Rattle.std.specs.List.{position}
use Rattle.std.proofs.lemmas.List.{length-take}
use Rattle.link.specs.Frames as link
use Rattle.link.specs.Frames.{due}
use Rattle.link.specs.Promises.{frame_of}
use Rattle.ledger.specs.Parts.{Ledger, nobody, somebody, oldest}
use Rattle.ledger.specs.Receiving.{flies}
use Rattle.ledger.specs.Polling as polling
use Rattle.ledger.specs.Polling.{overdue_in, queued_in, or_else}
use Rattle.ledger.specs.declared.Cause.TheVariants.{NoResponse}
use Rattle.endpoint.specs.Endpoint.{state_of, rows_of, live_of}
use Rattle.endpoint.specs.Places.{at, after}
use Rattle.endpoint.specs.declared.Requests.{Requests}
use Rattle.endpoint.specs.declared.Request.{Request}
use Rattle.live_search.specs.Searching.{is_shown, IsFlight}
use Rattle.live_search.proofs.Found.{position_one}
use Rattle.link.specs.declared.frame.Frame.{Frame}
use Rattle.live_search.proofs.Searched.{Finds, none_found, one_found}
use Rattle.decisions_poll.specs.Steps.{step_of, Reaches, Steps, frame_act}
use Rattle.decisions_poll.specs.declared.Step.{Step}
use Rattle.decisions_poll.specs.declared.Step.TheVariants.{End, First}

-- a step that applies in a case, or else another
in_case : (b : Bool) (a other : polling.Act) → or_else (if b (some a) none) other ≡ if b a other
in_case true a other = refl
in_case false a other = refl

-- the steps, from what the three searches come to
module _ (l : Ledger) (clock row : ℕ) where
  overdue_acts : Finds (λ q. overdue_in clock q.state) l.live row → polling.act l clock ≡ step_of (Some (End row NoResponse)) l clock
  unfolding polling.act
  overdue_acts o = rw o.found

  module _ (none-overdue : oldest (λ q. overdue_in clock q.state) l.live ≡ nobody) where
    frame_acts : {f : link.Frame} → oldest flies l.live ≡ somebody (take row l.live) (at row l.live) f (after row l.live)
        → polling.act l clock ≡ frame_act l clock f row
    unfolding polling.act
    frame_acts {f} found = rw (none-overdue, found) (in_case (due f clock) _ _)

    module _ (none_flies : oldest flies l.live ≡ nobody) where
      first_acts : Finds (λ q. queued_in q.state) l.live row → polling.act l clock ≡ step_of (Some (First row)) l clock
      unfolding polling.act
      first_acts o = rw (none-overdue, none_flies, o.found)

      no_step_acts : oldest (λ q. queued_in q.state) l.live ≡ nobody → polling.act l clock ≡ step_of None l clock
      unfolding polling.act
      no_step_acts none-waits = rw (none-overdue, none_flies, none-waits)

-- the tests of two of the searches
abbrev pub overdue : (clock : ℕ) → Request → Bool
overdue clock q = is_shown (overdue_in clock (state_of q.state))

abbrev pub waits : Request → Bool
waits q = is_shown (queued_in (state_of q.state))

-- the rows in use are no more than the count
in_count : (live : Requests) (row : ℕ) → row < length (rows_of live) → row < live.count
in_count live row less = omega (arith, length-take {A = Request})

-- the same for the rows that were searched
module _ (live : Requests) (clock : ℕ) (row : ℕ) where
  pub steps_overdue : position (overdue clock) (rows_of live) ≡ Some row → Steps (Some (End row NoResponse)) live clock
  steps_overdue one = record {
    acts = λ l store same.
        overdue_acts l clock row
        (one_found (λ q. overdue_in clock q.state) (overdue clock) (λ q b. refl) (rows_of live) l.live store same one);
    reaches = in_count live row (position_one (overdue clock) (rows_of live) row one).1;
  }

  module _ (none-overdue : position (overdue clock) (rows_of live) ≡ None) where
    no_wait : (l : Ledger) (store : List ℕ) → l.live ≡ live_of live store → oldest (λ q. overdue_in clock q.state) l.live ≡ nobody
    no_wait l store same =
        none_found (λ q. overdue_in clock q.state) (overdue clock) (λ q b. refl) (rows_of live) l.live store same none-overdue

    pub steps_frame : {f : Frame} → IsFlight (Some (row, f)) (rows_of live) → (s : Option Step)
        → ((l : Ledger) → step_of s l clock ≡ frame_act l clock (frame_of f) row) × ((n : ℕ) → row < n → Reaches s n) → Steps s live clock
    steps_frame one s frame = record {
      acts = λ l store same. frame_acts l clock row (no_wait l store same) (rw (← same) at (one.finds store)) ∙ sym (frame.0 l);
      reaches = frame.1 live.count (in_count live row one.within);
    }

    module _ (none_flying : IsFlight None (rows_of live)) where
      pub steps_first : position waits (rows_of live) ≡ Some row → Steps (Some (First row)) live clock
      steps_first one = record {
        acts = λ l store same.
            first_acts l clock row (no_wait l store same) (rw (← same) at (none_flying.finds store))
            (one_found (λ q. queued_in q.state) waits (λ q b. refl) (rows_of live) l.live store same one);
        reaches = in_count live row (position_one waits (rows_of live) row one).1;
      }

      pub no_step : position waits (rows_of live) ≡ None → Steps None live clock
      no_step none-queued = record {
        acts = λ l store same.
            no_step_acts l clock row (no_wait l store same) (rw (← same) at (none_flying.finds store))
            (none_found (λ q. queued_in q.state) waits (λ q b. refl) (rows_of live) l.live store same none-queued);
        reaches = tt;
      }
