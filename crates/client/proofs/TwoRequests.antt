-- The whole exchange, from what its parts do: open, a request that is answered, and one that is given up.
use Prim.Native.Nat.{ℕ, suc, ◌+◌, ◌≤◌}
use mathlib.Core.Bool.{cond as if}
use mathlib.Core.List.{List, [], ◌++◌}
use mathlib.Core.Option.{none, some}
use mathlib.Core.Path.{◌≡◌, refl, ap, ◌∙◌}
use native.Mathlib.Omega.{arith}
use lib.Dec.{ltb}
use lib.ListN.{length, drop}
use borrow.Author.Tests.{ltb-false, ne_eqb}
use Rattle.message.specs.Writing.{placed}
use Rattle.message.proofs.Buffer.{length_placed, after_placed}
use Rattle.command.specs.Payload.{Fields}
use Rattle.link.specs.Frames.{first_sent}
use Rattle.link.specs.Repeats.{none_seen}
use Rattle.link.specs.SequenceIds.{seq_after}
use Rattle.ledger.specs.Parts.{reserved_max, Ledger, fresh}
use Rattle.ledger.specs.Answers.{quiet, polled}
use Rattle.ledger.specs.Submitting.{last_id, id_after}
use Rattle.ledger.specs.Calls.{reading_of}
use Rattle.ledger.specs.Refusals.{first_of}
use Rattle.ledger.specs.Runs.{open_for, opened_by, reserved_for, Entry, past_from, past_of}
use Rattle.claims.specs.ClockRule.{accepted_in, MayFollow, ClockRule}
use Rattle.ledger.proofs.Cases.{by_test}
use Rattle.host_answers.specs.Promises as promise
use Rattle.host_answers.specs.Answers as returned
use Rattle.host_claims.specs.Claims.{Begins}
use Rattle.client_parts.specs.Answers.{frame_for}
use Rattle.client_parts.specs.Parts.{Asks, Hears, GivesUp}
use Rattle.client_parts.specs.declared.Readings.{Readings}
use Rattle.client_parts.specs.declared.Asked.{Asked}
use Rattle.client_parts.specs.declared.Heard.{Heard}
use Rattle.client_parts.specs.declared.GivenUp.{GivenUp}
use Rattle.client_parts.proofs.AskedOnce.{frame_room}
use Rattle.client.specs.Exchange.{Case, Handed, rows, calls_in, outcomes_in, Exchanges}

-- what open hands back: a fresh ledger, with an R of 255 at most
record Fresh (l : Ledger) : Type 0 where
  same : l ≡ fresh l.reserved
  small : l.reserved ≤ reserved_max

fresh_for : (given : ℕ) → Fresh (open_for given).next
unfolding first_of
fresh_for given =
    by_test (λ b. ltb reserved_max given ≡ b → Fresh (opened_by given (if b (some 3) none)).next) (ltb reserved_max given)
    (λ over e. record { same = refl; small = omega arith })
    (λ within e. record { same = refl; small = ltb-false reserved_max given e })
    refl

-- a frame that stands at the front of a buffer is put there again
put_by : (m x l : List ℕ) → drop (0 + length m) x ≡ drop (0 + length m) l → placed 0 m x ≡ placed 0 m l
unfolding placed
put_by m x l same = ap (λ (rest : List ℕ). m ++ rest) same

put_again : (m l : List ℕ) → 0 + length m ≤ length l → placed 0 m (placed 0 m l) ≡ placed 0 m l
put_again m l room = put_by m (placed 0 m l) l (after_placed 0 m l room)

-- the IDs and the SEQ of the second request
second_id_law : (r : ℕ) → r ≤ reserved_max → id_after r (suc r) ≡ suc (suc r)
unfolding id_after
second_id_law r small = rw (ne_eqb (suc r) last_id (λ same. omega arith))

second_seq : seq_after 0 ≡ 1
unfolding seq_after
second_seq = refl

-- the readings keep the rule for the clock
module _ (k : Case) {acknowledgement : List ℕ} (h : Handed k acknowledgement) where
  at_once : (before later : Entry) → reading_of before.call ≡ reading_of later.call → MayFollow before later
  at_once before later same late = absurd (omega arith)

  after_rest : (before later : Entry) → before.answer ≡ polled (quiet (some 1000)) → reading_of later.call ≤ reading_of before.call + 1000
      → MayFollow before later
  after_rest before later rested soon late = record {
    time = some 1000;
    rested = rested;
    within = λ ms same. (let it : 1000 ≡ ms = cc in omega arith);
  }

  keeps_clock_rule : ClockRule (past_of (calls_in (rows k)) (outcomes_in (rows k)))
  unfolding past_from accepted_in
  keeps_clock_rule =
      let soon = h.soon in
      let again = h.due in
      let last = h.due_last in
      let over = h.due_over in
      (after_rest _ _ refl (omega arith), (at_once _ _ refl, (after_rest _ _ refl (omega arith), (at_once _ _ refl, (after_rest _ _ refl (omega arith), (at_once _ _ refl, (at_once _ _ refl, (at_once _ _ refl, (at_once _ _ refl, (at_once _ _ refl, (after_rest _ _ refl (omega arith), (at_once _ _ refl, (at_once _ _ refl, tt)))))))))))))

-- the parts, each with its result and what it does
module _ (reserved : ℕ) (store : List ℕ) (f : Fields) (bytes acknowledgement first second : List ℕ) (at : Readings)
    (output reply buffer frames : List ℕ)
    (r0 : returned.Opened) (p0 : promise.Opened r0 reserved) (x0 : Begins r0 reserved)
    (r1 : Asked) (s1 o1 : List ℕ) (a1 : Asks r1 r0.endpoint store s1 f bytes output o1 at.asked)
    (r2 : Heard) (s2 y2 b2 : List ℕ) (a2 : Hears r2 r1.endpoint s1 s2 acknowledgement first second reply y2 buffer b2 at.heard)
    (r3 : Asked) (s3 o3 : List ℕ) (a3 : Asks r3 r2.endpoint s2 s3 f bytes frames o3 at.heard)
    (r4 : GivenUp) (s4 o4 : List ℕ) (a4 : GivesUp r4 r3.endpoint s3 s4 o3 o4 at) where
  pub exchanges : Exchanges (record { opened = r0.answer; first = r1; heard = r2; second = r3; over = r4 }) reserved f bytes
      acknowledgement first second at output reply buffer frames s4 o1 y2 b2 o4
  exchanges back seq answer h =
      let r = reserved_for reserved in
      let new = fresh_for reserved in
      let next = second_id_law r new.small in
      let k1 = a1 reserved r0 [] [] r 0 0 (suc r) none_seen (x0 store).list (p0.next store ∙ new.same) (omega arith) h.short
      h.output_room in
      let k2 = (rw h.acknowledges at a2) reserved r0 _ _ r at.asked 1 (suc (suc r)) (suc r) f bytes (first_sent 0 at.asked) back seq answer k1.list
      (rw (second_seq, next) at k1.ledger) h.on (omega arith) h.reply_room h.buffer_room refl h.responds
      h.answers h.brief h.cut in
      let k3 = a3 reserved r0 _ _ r at.heard 1 (suc (suc r)) (some seq) k2.list k2.ledger (omega arith) h.short
      h.frames_room in
      let other = frame_for f (suc (suc r)) bytes 1 in
      let room = frame_room f (suc (suc r)) 1 bytes frames h.short h.frames_room in
      let wide = h.frames_room in
      let size = length_placed 0 other frames room in
      let k4 = (rw k3.puts at a4) reserved r0 _ _ r at.heard _ _ (suc (suc r)) 1 (some seq) f bytes k3.list k3.ledger
      h.due h.due_last h.due_over (rw size wide) (put_again other frames room) in
      record {
        begun = r0;
        opened = p0.answers;
        answered = rw (
          k1.named,
          k1.sends,
          k1.calm,
          k2.acks,
          k2.waits,
          k2.ends,
          k3.named,
          k3.sends,
          k3.calm,
          k4.second,
          k4.rests,
          k4.third,
          k4.calm,
          k4.ends,
        );
        outputs = k1.puts;
        replies = k2.replies;
        buffers = k2.fills;
        framed = k4.stays;
        kept = keeps_clock_rule _ h;
        meets = k4.meets;
      }
