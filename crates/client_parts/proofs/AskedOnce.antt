-- A request that finds nobody live, from the contracts of submit and poll.
use Prim.Native.Nat.{ℕ, ◌+◌, ◌-◌, ◌≤◌}
use mathlib.Core.Bool.{true, false}
use mathlib.Core.List.{List, [], ◌∷◌}
use mathlib.Core.Option.{none, some}
use mathlib.Core.Path.{◌≡◌, ap, ◌∙◌}
use native.Mathlib.Omega.{arith}
use lib.Dec.{ltb}
use lib.ListN.{length}
use borrow.Author.Tests.{le-ltb}
use Rattle.message.specs.Bytes.{total, max_len, data_seq}
use Rattle.message.specs.Writing.{placed}
use Rattle.message.proofs.Buffer.{length_placed}
use Rattle.message.proofs.Headers.{length_message}
use Rattle.command.specs.Payload.{Fields, max_data, payload}
use Rattle.command.proofs.Laws.{length_payload}
use Rattle.link.specs.Frames.{first_sent, resend_time}
use Rattle.link.proofs.Laws.{first_not_due}
use Rattle.link.specs.SequenceIds.{seq_after}
use Rattle.ledger.specs.Answers.{quiet, polled}
use Rattle.ledger.specs.Submitting.{id_after}
use Rattle.ledger.specs.Calls.{submit, poll}
use Rattle.ledger.specs.Refusals.{line, first_of}
use Rattle.endpoint.specs.declared.Endpoint.{Endpoint}
use Rattle.host_answers.specs.Promises.{submit_result, poll_result, Promise}
use Rattle.host_answers.specs.Answers as returned
use Rattle.host_claims.specs.Claims.{Extends}
use Rattle.client_parts.specs.Answers.{frame_for}
use Rattle.client_parts.specs.Parts.{Asks}
use Rattle.client_parts.proofs.Calls.{comes, with_call}
use Rattle.client_parts.proofs.Polls.{submit_idle, poll_queued, poll_calm}

-- the one buffer of a poll
pub the_one : {x y : List ℕ} → ◌≡◌ {A = List (List ℕ)} (x ∷ []) (y ∷ []) → x ≡ y
the_one p = cc

-- a poll is not refused where its output has room
pub poll_passes : (output : List ℕ) → total max_len ≤ length output → first_of (line 6 (ltb (length output) (total max_len)) ∷ []) ≡ none
unfolding first_of
poll_passes output room = rw (le-ltb (length output) (total max_len) room)

-- a frame has room in it, and leaves its length
pub frame_room : (f : Fields) (id seq : ℕ) (bytes output : List ℕ) → length bytes ≤ max_data → total max_len ≤ length output
    → 0 + length (frame_for f id bytes seq) ≤ length output
frame_room f id seq bytes output short room =
    let all = length_message data_seq seq (payload f id bytes) in let head = length_payload f id bytes in omega arith

-- a frame that has just gone out is due in 1,000 ms
pub rests_1000 : (t : ℕ) → polled (quiet (some (t + resend_time - t))) ≡ polled (quiet (some resend_time))
rests_1000 t = ap (λ (n : ℕ). polled (quiet (some n))) (omega arith)

-- the calls, each with its result and its contract
module _ (e : Endpoint) (store : List ℕ) (f : Fields) (bytes output : List ℕ) (t : ℕ)
    (r1 : returned.Submitted) (s1 : List ℕ) (p1 : Promise e store (submit f bytes true t) (submit_result r1 s1))
    (x1 : Extends e store (submit f bytes true t) (submit_result r1 s1))
    (r2 : returned.Polled) (s2 o2 : List ℕ) (p2 : Promise r1.endpoint s1 (poll output t) (poll_result r2 s2 o2))
    (x2 : Extends r1.endpoint s1 (poll output t) (poll_result r2 s2 o2))
    (r3 : returned.Polled) (s3 o3 : List ℕ) (p3 : Promise r2.endpoint s2 (poll o2 t) (poll_result r3 s3 o3))
    (x3 : Extends r2.endpoint s2 (poll o2 t) (poll_result r3 s3 o3)) where
  submit_passes : length bytes ≤ max_data → first_of (line 4 (ltb max_data (length bytes)) ∷ line 5 false ∷ []) ≡ none
  unfolding first_of
  submit_passes short = rw (le-ltb max_data (length bytes) short)

  pub asks : Asks (record { id = r1.answer; sent = r2.answer; rests = r3.answer; endpoint = r3.endpoint }) e store s3 f bytes output o3 t
  asks given begun calls outcomes reserved before seq id seen chain stands on short room =
      let sent = placed 0 (frame_for f id bytes seq) output in
      let k1 = comes chain stands (submit f bytes true t) (submit_result r1 s1) p1 on (submit_passes short)
      (submit_idle reserved before seq id seen f bytes t) in
      let c1 = with_call chain (submit f bytes true t) (submit_result r1 s1) x1 k1.answers k1.leaves in
      let k2 = comes c1 k1.next (poll output t) (poll_result r2 s2 o2) p2 (omega arith) (poll_passes output room)
      (poll_queued reserved t seq (id_after reserved id) seen id f bytes output t) in
      let c2 = with_call c1 (poll output t) (poll_result r2 s2 o2) x2 k2.answers k2.leaves in
      let put = the_one k2.leaves in
      let size = length_placed 0 (frame_for f id bytes seq) output (frame_room f id seq bytes output short room) in
      let k3 = comes c2 k2.next (poll sent t) (poll_result r3 s3 o3) (rw put at p3) (omega arith) (poll_passes sent (rw size room))
      (poll_calm reserved t (seq_after seq) (id_after reserved id) seen id f bytes sent t (first_sent seq t) (first_not_due seq t)) in
      let calm = k3.answers ∙ rests_1000 t in
      record {
        named = k1.answers;
        sends = k2.answers;
        calm = calm;
        puts = the_one k3.leaves;
        ledger = k3.next;
        list = with_call c2 (poll sent t) (poll_result r3 s3 o3) (rw put at x3) calm k3.leaves;
      }
