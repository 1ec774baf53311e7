-- What the receives do where one request is live: its ACK, a part of a message, and the response.
use Prim.Native.Nat.{ℕ, ◌+◌, ◌≤◌, ◌<◌}
use mathlib.Core.Bool.{true}
use mathlib.Core.List.{List, [], ◌∷◌, ◌++◌}
use mathlib.Core.Option.{some}
use mathlib.Core.Path.{◌≡◌, refl}
use native.Mathlib.Omega.{arith}
use lib.ListN.{length}
use borrow.Author.Tests.{eq-eqb, le-leb, lt-leb}
use Rattle.message.specs.Bytes.{allowed, message, max_len, ack, data_seq}
use Rattle.message.specs.Items as items
use Rattle.message.specs.Writing.{placed}
use Rattle.message.proofs.Headers.{length_message}
use Rattle.line.specs.Receiving as line
use Rattle.line.specs.Receiving.{item}
use Rattle.line.proofs.Laws.{first_piece, last_piece}
use Rattle.command.specs.Payload.{Fields, head_length, max_data, payload, answers}
use Rattle.command.proofs.Laws.{length_payload, is_command_law, fields_read, rqid_read, data_read}
use Rattle.link.specs.Frames.{Frame}
use Rattle.link.specs.Repeats.{none_seen, is_repeat, seen_after}
use Rattle.ledger.specs.Parts.{in_flight, waiting, oldest}
use Rattle.ledger.specs.Answers.{received}
use Rattle.ledger.specs.Receiving as receiving
use Rattle.ledger.specs.Receiving.{ack_message, matches, on_data, on_message}
use Rattle.ledger.specs.Calls.{receive}
use Rattle.ledger.specs.Runs.{accepts}
use Rattle.client_parts.specs.Answers.{frame_for, to_ack, to_first, to_second}
use Rattle.client_parts.specs.Parts.{with_live, idle, asking}

ack_allowed : allowed ack 0 ≡ true
unfolding allowed
ack_allowed = refl

data-allowed : (n : ℕ) → 1 ≤ n → n ≤ max_len → allowed data_seq n ≡ true
unfolding allowed
data-allowed n least most = rw (le-leb 1 n least, le-leb n max_len most)

module _ (reserved before seq next id : ℕ) (f : Fields) (bytes reply buffer : List ℕ) (t : ℕ) where
  -- the ACK of the frame in flight
  ack_read : (s : ℕ) → line.receive [] (ack_message s)
      ≡ record { answer = item (items.message ack s 0); payload = []; taken = 10; held = [] }
  ack_read s = rw (length_message ack s []) at (last_piece ack s [] [] (ack_message s) ack_allowed refl)

  pub receive_ack : (frame : Frame)
      → accepts (with_live reserved before seq next none_seen (asking id f bytes (in_flight frame) ∷ []) [])
      (receive (ack_message frame.seq) reply buffer t)
      ≡ record {
        answer = received (to_ack frame.seq);
        buffers = reply ∷ buffer ∷ [];
        next = with_live reserved t seq next none_seen (asking id f bytes (waiting t) ∷ []) [];
      }
  unfolding receiving.receive on_message oldest placed
  receive_ack frame = rw (ack_read frame.seq, eq-eqb frame.seq frame.seq refl)

  -- a response in two pieces
  module _ (back : Fields) (s : ℕ) (answer first second : List ℕ) (cut : first ++ second ≡ frame_for back id answer s)
      (brief : length answer ≤ max_data) where
    fine : allowed data_seq (length (payload back id answer)) ≡ true
    fine = let long = length_payload back id answer in data-allowed (length (payload back id answer)) (omega arith) (omega arith)

    -- the first
    pub receive_first : 0 < length second
        → accepts (with_live reserved before seq next none_seen (asking id f bytes (waiting before) ∷ []) [])
        (receive first reply buffer t)
        ≡ record {
          answer = received (to_first first);
          buffers = reply ∷ buffer ∷ [];
          next = with_live reserved t seq next none_seen (asking id f bytes (waiting before) ∷ []) first;
        }
    unfolding receiving.receive placed
    receive_first left = rw (first_piece data_seq s (payload back id answer) first second fine cut left)

    -- the second
    second_read : line.receive first second
        ≡ record {
          answer = item (items.message data_seq s (head_length + length answer));
          payload = payload back id answer;
          taken = length second;
          held = [];
        }
    second_read = rw (length_payload back id answer) at (last_piece data_seq s (payload back id answer) first second fine cut)

    pub receive_second : reserved < id → answers f back ≡ true
        → accepts (with_live reserved before seq next none_seen (asking id f bytes (waiting before) ∷ []) first)
        (receive second reply buffer t)
        ≡ record {
          answer = received (to_second back id s answer second);
          buffers = placed 0 (ack_message s) reply ∷ placed 0 answer buffer ∷ [];
          next = idle reserved t seq next (some s);
        }
    unfolding receiving.receive on_message on_data matches oldest is_repeat seen_after
    receive_second unreserved fits =
        rw (
          second_read,
          is_command_law back id answer,
          fields_read back id answer,
          rqid_read back id answer,
          data_read back id answer,
          lt-leb id reserved unreserved,
          le-leb 1 id (omega arith),
          eq-eqb id id refl,
          fits,
          length_message ack s [],
        )
