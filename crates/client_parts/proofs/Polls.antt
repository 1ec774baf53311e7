-- What submit and polls do where one request is live, or none.
use Prim.Native.Nat.{ℕ, ◌-◌}
use mathlib.Core.Bool.{true, false}
use mathlib.Core.List.{List, [], ◌∷◌}
use mathlib.Core.Option.{some}
use mathlib.Core.Path.{◌≡◌, refl}
use lib.ListN.{length}
use Rattle.message.specs.Writing.{placed}
use Rattle.command.specs.Payload.{Fields}
use Rattle.link.specs.Frames.{Frame, first_sent, due, may_go_again, sent_again, deadline}
use Rattle.link.specs.Repeats.{Seen}
use Rattle.link.specs.SequenceIds.{seq_after}
use Rattle.ledger.specs.Parts.{queued, in_flight, oldest}
use Rattle.ledger.specs.Answers.{no_acknowledgement, sent, ended, quiet, submitted, polled}
use Rattle.ledger.specs.Submitting.{id_after, first_free}
use Rattle.ledger.specs.Polling as polling
use Rattle.ledger.specs.Polling.{earliest}
use Rattle.ledger.specs.Calls.{submit, poll}
use Rattle.ledger.specs.Runs.{accepts}
use Rattle.client_parts.specs.Answers.{frame_for}
use Rattle.client_parts.specs.Parts.{with_live, idle, asking}

module _ (reserved before seq next : ℕ) (seen : Seen) where
  -- a submit where nobody is live
  pub submit_idle : (f : Fields) (bytes : List ℕ) (t : ℕ)
      → accepts (idle reserved before seq next seen) (submit f bytes true t)
      ≡ record {
        answer = submitted next;
        buffers = [];
        next = with_live reserved t seq (id_after reserved next) seen (asking next f bytes queued ∷ []) [];
      }
  unfolding first_free
  submit_idle f bytes t = refl

  module _ (id : ℕ) (f : Fields) (bytes output : List ℕ) (t : ℕ) where
    -- a poll where one is queued
    pub poll_queued : accepts (with_live reserved before seq next seen (asking id f bytes queued ∷ []) []) (poll output t)
        ≡ record {
          answer = polled (sent (length (frame_for f id bytes seq)));
          buffers = placed 0 (frame_for f id bytes seq) output ∷ [];
          next = with_live reserved t (seq_after seq) next seen (asking id f bytes (in_flight (first_sent seq t)) ∷ []) [];
        }
    unfolding polling.act oldest
    poll_queued = refl

    -- polls where one is in flight: it is not due; it is due and may go again; it may not
    module _ (frame : Frame) where
      pub poll_calm : due frame t ≡ false
          → accepts (with_live reserved before seq next seen (asking id f bytes (in_flight frame) ∷ []) []) (poll output t)
          ≡ record {
            answer = polled (quiet (some (deadline frame - t)));
            buffers = output ∷ [];
            next = with_live reserved t seq next seen (asking id f bytes (in_flight frame) ∷ []) [];
          }
      unfolding polling.act oldest earliest placed
      poll_calm calm = rw calm

      pub poll_again : due frame t ≡ true → may_go_again frame ≡ true
          → accepts (with_live reserved before seq next seen (asking id f bytes (in_flight frame) ∷ []) []) (poll output t)
          ≡ record {
            answer = polled (sent (length (frame_for f id bytes frame.seq)));
            buffers = placed 0 (frame_for f id bytes frame.seq) output ∷ [];
            next = with_live reserved t seq next seen (asking id f bytes (in_flight (sent_again frame t)) ∷ []) [];
          }
      unfolding polling.act oldest
      poll_again late may = rw (late, may)

      pub poll_over : due frame t ≡ true → may_go_again frame ≡ false
          → accepts (with_live reserved before seq next seen (asking id f bytes (in_flight frame) ∷ []) []) (poll output t)
          ≡ record {
            answer = polled (ended (record { id = id; cause = no_acknowledgement }));
            buffers = output ∷ [];
            next = idle reserved t seq next seen;
          }
      unfolding polling.act oldest placed
      poll_over late may = rw (late, may)
