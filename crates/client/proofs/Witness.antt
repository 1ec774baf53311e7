-- What the client asks of its inputs can be met: R = 38, a command with one byte of data, a response of two, cut behind its fifth byte.
use Prim.Native.Nat.{ℕ}
use mathlib.Core.List.{List, [], ◌∷◌}
use mathlib.Core.Path.{◌≡◌, refl}
use native.Mathlib.Omega.{arith}
use lib.ListN.{length, take, drop, replicate, take-append-drop, length-drop, length-replicate}
use Rattle.message.specs.Bytes.{total, max_len, data_seq}
use Rattle.message.proofs.Headers.{length_message}
use Rattle.command.specs.Payload.{Fields, max_data, payload, answers}
use Rattle.command.proofs.Laws.{length_payload}
use Rattle.ledger.specs.Receiving.{ack_message}
use Rattle.ledger.specs.Refusals.{first_of}
use Rattle.client_parts.specs.Answers.{frame_for}
use Rattle.client.specs.Exchange.{Case, Handed}

abbrev asked : Fields
asked = record { tc = 2; tid = 1; sid = 0; iid = 1; cid = 13 }

abbrev back : Fields
back = record { tc = 2; tid = 0; sid = 1; iid = 1; cid = 13 }

abbrev response : List ℕ
response = frame_for back 39 (7 ∷ 8 ∷ []) 200

abbrev pub sample : Case
sample = record {
  reserved = 38;
  fields = asked;
  bytes = 9 ∷ [];
  back = back;
  seq = 200;
  answer = 7 ∷ 8 ∷ [];
  first = take 5 response;
  second = drop 5 response;
  asked = 100;
  heard = 600;
  again = 1600;
  last = 2600;
  over = 3600;
  output = replicate (total max_len) 0;
  reply = replicate (total 0) 0;
  buffer = replicate max_data 0;
  frames = replicate (total max_len) 0;
}

long : length response ≡ 20
long = let all = length_message data_seq 200 (payload back 39 (7 ∷ 8 ∷ [])) in let head = length_payload back 39 (7 ∷ 8 ∷ []) in omega arith

pub can_be_handed : Handed sample (ack_message 0)
unfolding answers first_of
can_be_handed = record {
  short = omega arith;
  acknowledges = refl;
  responds = take-append-drop 5 response;
  answers = refl;
  brief = omega arith;
  cut = (let all = long in rw (length-drop 5 response) (omega arith));
  on = omega arith;
  soon = omega arith;
  due = refl;
  due_last = refl;
  due_over = refl;
  output_room = rw (length-replicate {A = ℕ} (total max_len) 0) (omega arith);
  reply_room = rw (length-replicate {A = ℕ} (total 0) 0) (omega arith);
  buffer_room = rw (length-replicate {A = ℕ} max_data 0) (omega arith);
  frames_room = rw (length-replicate {A = ℕ} (total max_len) 0) (omega arith);
}
