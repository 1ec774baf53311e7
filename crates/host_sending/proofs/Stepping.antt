-- What the effects of a poll come to: what the ledger does by the same step.
use Prim.Native.Nat.{ℕ, ◌-◌, ◌≤◌, ◌<◌}
use mathlib.Core.List.{List, [], ◌∷◌}
use mathlib.Core.Option.{Option, none, map}
use mathlib.Core.Path.{◌≡◌, refl, sym, ap, ◌∙◌}
use lib.Dec.{ltb}
use lib.ListN.{length, get_or}
use borrow.Author.Tests.{ltb-false}
use Rattle.std.specs.Prelude.{Some, None, Ok}
use Rattle.message.specs.Bytes.{total, max_len}
use Rattle.message.specs.declared.Seq.{Seq}
use Rattle.line.specs.Receiving.{held_max}
use Rattle.link.specs.Promises.{frame_of}
use Rattle.link.specs.declared.frame.Frame.{Frame}
use Rattle.ledger.specs.Parts.{live_max}
use Rattle.ledger.specs.Answers.{polled, quiet}
use Rattle.ledger.specs.Polling.{frame_bytes, earliest, step4, polled_as}
use Rattle.ledger.specs.Refusals.{line, first_of}
use Rattle.ledger.specs.declared.Cause.{Cause}
use Rattle.endpoint.specs.Endpoint.{rows_of, live_of, ledger_of}
use Rattle.endpoint.specs.Malformed.{bare_of}
use Rattle.endpoint.specs.Places.{at}
use Rattle.endpoint.specs.declared.Endpoint.{Endpoint}
use Rattle.endpoint.specs.declared.Requests.{Requests}
use Rattle.endpoint.specs.declared.State.TheVariants.{InFlight}
use Rattle.endpoint.proofs.Rows.{blank_row}
use Rattle.live_changes.specs.Changing.{changed, Becomes}
use Rattle.live_changes.specs.declared.Change.TheVariants.{Turn, End}
use Rattle.live_changes.proofs.Becoming.{live_at}
use Rattle.std.specs.Prelude as std
use Rattle.live_deadline.specs.Deadlines.{time_of, left_of}
use Rattle.live_deadline.proofs.Times.{earliest_rows}
use Rattle.frames.specs.Promises.{Put}
use Rattle.decisions_poll.specs.Steps.{step_of, sent_from}
use Rattle.decisions_poll.specs.declared.Step.TheVariants as step
use Rattle.refinement.proofs.Sound.{held_of, fits_of}
use Rattle.host_answers.specs.Answers.{poll_answer_of}
use Rattle.host_answers.specs.Promises.{poll_result}
use Rattle.refusals.specs.Code.{with_endpoint}
use Rattle.host_answers.specs.Code.{Does}
use Rattle.host_answers.specs.declared.accepted.Accepted.{Accepted}
use Rattle.host_answers.specs.declared.PollOutcome.TheVariants as outcome
use Rattle.host_answers.proofs.Held.{placed_none, held_same}
use Rattle.refusals.proofs.Table.{passed, own_passed}

-- the endpoint after a poll
abbrev pub polled_endpoint : Endpoint → (live : Requests) (seq : Seq) (clock : ℕ) → Endpoint
polled_endpoint e live seq clock =
    record { live = live; reserved = e.reserved; clock = clock; seq = seq; next = e.next; seen = e.seen; held = e.held }

module _ (accepted : Accepted) (store : List ℕ) where
  abbrev e : Endpoint
  e = accepted.e

  abbrev clock : ℕ
  clock = accepted.clock

  few_held : e.held ≤ held_max
  few_held = held_of e accepted.sound.sound

  -- a request ends
  pub ended : (row : ℕ) (cause : Cause) (own live : Requests) (exit output : List ℕ) → own ≡ e.live
      → length own.rows ≡ live_max → row < e.live.count
      → Becomes live (changed (Some (End row cause)) (live_of own store)) store exit
      → Does (polled_as (ledger_of e store) (step_of (Some (step.End row cause)) (ledger_of e store) clock) output clock)
      (poll_result (record {
        answer = Ok (outcome.Ended (record { id = (get_or own.rows row blank_row).id; cause = cause }));
        endpoint = polled_endpoint e live e.seq clock;
      }) exit output)
  ended row cause own live exit output its three less becomes =
      let held = held_same e.held store exit few_held becomes.holds in
      let it = live_at e.live (rw its at three) (fits_of e accepted.sound.sound) store row less in
      let lists = rw its at becomes.lists in
      record {
        answers = rw (its, it);
        leaves = rw (placed_none output);
        next = rw (lists, held);
        fits = becomes.fits;
        holds = few_held;
      }

  -- a frame goes out
  pub sent : (row : ℕ) (frame : Frame) (next : Seq) (count : ℕ) (own live : Requests) (exit output output_exit : List ℕ) → own ≡ e.live
      → Put count (frame_bytes (at row (live_of own store)) frame.seq.0) output output_exit
      → Becomes live (changed (Some (Turn row (InFlight frame))) (live_of own store)) store exit
      → Does (polled_as (ledger_of e store) (sent_from (ledger_of e store) clock (frame_of frame) next.0 row) output clock)
      (poll_result (record { answer = Ok (outcome.Sent count); endpoint = polled_endpoint e live next clock }) exit output_exit)
  sent row frame next count own live exit output output_exit its put becomes =
      let held = held_same e.held store exit few_held becomes.holds in
      let lists = rw its at becomes.lists in
      let puts = rw its at put in
      record {
        answers = rw puts.counts;
        leaves = rw puts.leaves;
        next = rw (lists, held);
        fits = becomes.fits;
        holds = few_held;
      }

  -- nothing is due
  rests : (time : std.Option ℕ) → time_of time ≡ left_of clock (earliest (bare_of (rows_of e.live)))
      → time_of time ≡ map (◌- clock) (earliest (live_of e.live store))
  rests time left = left ∙ ap (left_of clock) (sym (earliest_rows (rows_of e.live) 0 store))

  shown_quiet : (time : std.Option ℕ) → poll_answer_of (Ok (outcome.Quiet time)) ≡ polled (quiet (time_of time))
  shown_quiet None = refl
  shown_quiet (Some ms) = refl

  pub quiet_law : (time : std.Option ℕ) (output : List ℕ)
      → time_of time ≡ left_of clock (earliest (bare_of (rows_of e.live)))
      → Does (polled_as (ledger_of e store) (step4 (ledger_of e store) clock) output clock)
      (poll_result (record { answer = Ok (outcome.Quiet time); endpoint = polled_endpoint e e.live e.seq clock }) store output)
  quiet_law time output left =
      record {
        answers = shown_quiet time ∙ ap (λ (t : Option ℕ). polled (quiet t)) (rests time left);
        leaves = rw (placed_none output);
        next = refl;
        fits = fits_of e accepted.sound.sound;
        holds = few_held;
      }

-- the table as poll tests it
pub long_enough : (e : Endpoint) (clock size : ℕ) → first_of (with_endpoint e clock (line 6 (ltb size (total max_len)) ∷ [])) ≡ none
    → total max_len ≤ size
long_enough e clock size h =
    ltb-false size (total max_len) (own_passed 6 (ltb size (total max_len)) [] (passed e clock _ h).rest).0
