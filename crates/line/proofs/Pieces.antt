-- A message that arrives in two pieces: the first is held and answered *more*, and with the second the message is there. With an empty
-- first piece this is a message in one.
use Prim.Native.Nat.{ℕ, ◌+◌, ◌<◌}
use mathlib.Core.Bool.{true, true≢false}
use mathlib.Core.List.{List, [], ◌++◌, append-nil}
use mathlib.Core.Path.{◌≡◌, refl, sym, ap, ◌∙◌}
use native.Mathlib.Omega.{arith}
use lib.ListN.{length, drop, length-append, drop_of_length-le}
use lib.Seq.{take-length}
use Rattle.message.specs.Bytes.{allowed, message, total}
use Rattle.message.specs.Items as items
use Rattle.message.specs.Items.{Scan, undecided, decided, dropped, scan, payload_of}
use Rattle.message.proofs.Headers.{length_message}
use Rattle.message.proofs.ReadWritten.{scan_message, payload_of_message}
use Rattle.line.specs.Receiving.{decides, more, item, receive}
use Rattle.line.proofs.Gives.{undecided_left}
use Rattle.line.proofs.Joined.{later, scan_joined}
use Rattle.line.proofs.Reach.{scan_fewer}
use Rattle.line.proofs.Taking.{at_more, at_item}

-- an item with nothing dropped before it had nothing to be dropped
dropped_none : {n r : ℕ} {i : items.Item} (s : Scan) → decided i 0 r ≡ later n s → n ≡ 0
dropped_none (undecided d) h = let z : ◌≡◌ {A = ℕ} 0 1 = cc in absurd (omega arith)
dropped_none {n} (decided j d m) h = let sum : 0 ≡ n + d = cc in omega arith

module _ (type seq : ℕ) (payload first second : List ℕ) (fine : allowed type (length payload) ≡ true)
    (cut : first ++ second ≡ message type seq payload) where
  lengths : length first + length second ≡ total (length payload)
  lengths = sym (length-append first second) ∙ ap length cut ∙ length_message type seq payload

  both_decide : scan (first ++ second) ≡ decided (items.message type seq (length payload)) 0 (total (length payload))
  both_decide = rw (cut, ← append-nil (message type seq payload)) (scan_message type seq payload [] fine)

  both_hold : payload_of (first ++ second) ≡ payload
  both_hold = rw (cut, ← append-nil (message type seq payload)) (payload_of_message type seq payload [] fine)

  -- the second piece
  pub last_piece : receive first second
      ≡ record { answer = item (items.message type seq (length payload)); payload = payload; taken = length second; held = [] }
  last_piece =
      let all = lengths in
      at_item first second (length second) {i = items.message type seq (length payload)} {d = 0} {r = total (length payload)} (omega arith) (rw (take-length second) both_decide) (omega arith)
      ∙ rw (
        take-length second,
        both_decide,
        both_hold,
        drop_of_length-le (first ++ second) {i = 0 + total (length payload)}
            (omega (arith, length-append first second)),
      )

  -- the first, where another follows
  module _ (some : 0 < length second) where
    waits : (s : Scan) → scan first ≡ s → scan first ≡ undecided 0
    waits (undecided e) h =
        let none = dropped_none (scan (drop (dropped first) first ++ second)) (sym both_decide ∙ scan_joined first second) in
        h ∙ ap undecided ((undecided_left first h).0 ∙ none)
    waits (decided i d r) h =
        let all = lengths in absurd (true≢false (sym (ap decides h) ∙ scan_fewer first second both_decide (omega arith)))

    pub first_piece : receive [] first ≡ record { answer = more; payload = []; taken = length first; held = first }
    unfolding payload_of
    first_piece =
        let h = waits (scan first) refl in at_more [] first (ap decides h) ∙ rw h
