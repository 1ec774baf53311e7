-- An acknowledged request and its response in two pieces, from the contract of receive.
use Prim.Native.Nat.{ℕ, ◌≤◌}
use mathlib.Core.Bool.{◌||◌}
use mathlib.Core.List.{List, [], ◌∷◌}
use mathlib.Core.Option.{none}
use mathlib.Core.Path.{◌≡◌}
use native.Mathlib.Omega.{arith}
use lib.Dec.{ltb}
use lib.ListN.{length}
use borrow.Author.Tests.{le-ltb}
use Rattle.message.specs.Bytes.{total}
use Rattle.command.specs.Payload.{max_data}
use Rattle.ledger.specs.Calls.{receive}
use Rattle.ledger.specs.Refusals.{line, first_of}
use Rattle.endpoint.specs.declared.Endpoint.{Endpoint}
use Rattle.host_answers.specs.Answers.{Received}
use Rattle.host_answers.specs.Promises.{receive_result, Promise}
use Rattle.host_claims.specs.Claims.{Extends}
use Rattle.client_parts.specs.Parts.{Hears}
use Rattle.client_parts.proofs.Calls.{comes, with_call}
use Rattle.client_parts.proofs.Receives.{receive_ack, receive_first, receive_second}

-- the two buffers of a receive
record TheTwo (x y x' y' : List ℕ) : Type 0 where
  reply : x ≡ x'
  buffer : y ≡ y'

the_two : {x y x' y' : List ℕ} → ◌≡◌ {A = List (List ℕ)} (x ∷ y ∷ []) (x' ∷ y' ∷ []) → TheTwo x y x' y'
the_two p = record { reply = cc; buffer = cc }

-- a receive is not refused where its buffers have room
receive_passes : (reply buffer : List ℕ) → total 0 ≤ length reply → max_data ≤ length buffer
    → first_of (line 6 (ltb (length reply) (total 0) || ltb (length buffer) max_data) ∷ []) ≡ none
unfolding first_of
receive_passes reply buffer room more_Room =
    rw (le-ltb (length reply) (total 0) room, le-ltb (length buffer) max_data more_Room)

-- the calls, each with its result and its contract
module _ (e : Endpoint) (store acknowledgement first second reply buffer : List ℕ) (t : ℕ)
    (r1 : Received) (s1 a1 b1 : List ℕ) (p1 : Promise e store (receive acknowledgement reply buffer t) (receive_result r1 s1 a1 b1))
    (x1 : Extends e store (receive acknowledgement reply buffer t) (receive_result r1 s1 a1 b1))
    (r2 : Received) (s2 a2 b2 : List ℕ) (p2 : Promise r1.endpoint s1 (receive first a1 b1 t) (receive_result r2 s2 a2 b2))
    (x2 : Extends r1.endpoint s1 (receive first a1 b1 t) (receive_result r2 s2 a2 b2))
    (r3 : Received) (s3 a3 b3 : List ℕ) (p3 : Promise r2.endpoint s2 (receive second a2 b2 t) (receive_result r3 s3 a3 b3))
    (x3 : Extends r2.endpoint s2 (receive second a2 b2 t) (receive_result r3 s3 a3 b3)) where
  pub hears : Hears (record { acknowledged = r1.answer; waits = r2.answer; answered = r3.answer; endpoint = r3.endpoint }) e store s3
      acknowledgement first second reply a3 buffer b3 t
  hears given begun calls outcomes reserved before seq next id f bytes frame back s answer chain stands on unreserved room more_Room ack cut fits
      brief left =
      let passes = receive_passes reply buffer room more_Room in
      let k1 = comes chain stands (receive acknowledgement reply buffer t) (receive_result r1 s1 a1 b1) p1 on passes
      (rw (← ack) at (receive_ack reserved before seq next id f bytes reply buffer t frame)) in
      let c1 = with_call chain (receive acknowledgement reply buffer t) (receive_result r1 s1 a1 b1) x1 k1.answers k1.leaves in
      let same1 = the_two k1.leaves in
      let k2 = comes c1 k1.next (receive first reply buffer t) (receive_result r2 s2 a2 b2) (rw (same1.reply, same1.buffer) at p2)
      (omega arith) passes (receive_first reserved t seq next id f bytes reply buffer t back s answer first second cut brief left) in
      let c2 = with_call c1 (receive first reply buffer t) (receive_result r2 s2 a2 b2) (rw (same1.reply, same1.buffer) at x2)
      k2.answers k2.leaves in
      let same2 = the_two k2.leaves in
      let k3 = comes c2 k2.next (receive second reply buffer t) (receive_result r3 s3 a3 b3) (rw (same2.reply, same2.buffer) at p3)
      (omega arith) passes
      (receive_second reserved t seq next id f bytes reply buffer t back s answer first second cut brief unreserved fits) in
      let same3 = the_two k3.leaves in
      record {
        acks = k1.answers;
        waits = k2.answers;
        ends = k3.answers;
        replies = same3.reply;
        fills = same3.buffer;
        ledger = k3.next;
        list = with_call c2 (receive second reply buffer t) (receive_result r3 s3 a3 b3) (rw (same2.reply, same2.buffer) at x3)
            k3.answers k3.leaves;
      }
