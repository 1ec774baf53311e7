-- Document 01, "Refusal numbers, tested in this order", on the ledger's own state.
use Rattle.std.specs.Prelude.{ℕ, suc, ◌+◌, Bool, false, not, ◌&&◌, ◌||◌, cond as if, List, [], ◌∷◌, eqb, leb, ltb, length}
use Rattle.std.proofs.Math.Option.{Option, none, some}
use Rattle.message.specs.Bytes.{total, max_len}
use Rattle.line.specs.Receiving.{held_max}
use Rattle.command.specs.Payload.{max_data}
use Rattle.link.specs.Frames.{max_transmissions}
use Rattle.ledger.specs.Parts.{reserved_max, State, queued, in_flight, waiting, Request, Ledger}
use Rattle.ledger.specs.Submitting.{last_id, is_live}
use Rattle.ledger.specs.Calls.{Call, submit, receive, poll, reading_of}

-- whether some live request has a property
unfoldable pub some_of : (Request → Bool) → List Request → Bool
some_of test [] = false
some_of test (q ∷ qs) = test q || some_of test qs

-- "a live or next ID outside R + 1 to 65535"
abbrev pub is_outside : (reserved id : ℕ) → Bool
is_outside r id = not (leb (suc r) id && leb id last_id)

-- "two equal live IDs"
unfoldable pub two_equal : List Request → Bool
two_equal [] = false
two_equal (q ∷ qs) = is_live q.id qs || two_equal qs

-- how many are in flight, for "two in flight"
abbrev pub flies_once : State → ℕ
flies_once queued = 0
flies_once (in_flight f) = 1
flies_once (waiting since) = 0

-- of all live requests
unfoldable pub flights : List Request → ℕ
flights [] = 0
flights (q ∷ qs) = flies_once q.state + flights qs

-- "transmissions not 1 to 3"
abbrev pub wrongly_often : State → Bool
wrongly_often queued = false
wrongly_often (in_flight f) = not (leb 1 f.transmissions && leb f.transmissions max_transmissions)
wrongly_often (waiting since) = false

-- "a waiting request that wants no response"
abbrev pub waits_for_nothing : (wanted : Bool) → State → Bool
waits_for_nothing wanted queued = false
waits_for_nothing wanted (in_flight f) = false
waits_for_nothing wanted (waiting since) = not wanted

-- "a time later than the clock"
abbrev pub is_late : (clock : ℕ) → State → Bool
is_late clock queued = false
is_late clock (in_flight f) = ltb clock f.sent
is_late clock (waiting since) = ltb clock since

-- "Malformed means one of", in its order, where at most `limit` requests may be live. An endpoint has a rule of its own
-- (`endpoint/specs/Malformed.antt`): the two agree by the laws `ledger_sound` and `endpoint_sound` (`refinement/proofs/Sound.antt`)
unfoldable pub malformed : (limit : ℕ) → Ledger → Bool
malformed limit l =
    ltb reserved_max l.reserved
    || (ltb limit (length l.live)
    || ((some_of (λ q. is_outside l.reserved q.id) l.live || is_outside l.reserved l.next_id)
    || (two_equal l.live
    || (ltb 1 (flights l.live)
    || (some_of (λ q. wrongly_often q.state) l.live
    || (some_of (λ q. ltb max_data (length q.bytes)) l.live
    || (some_of (λ q. waits_for_nothing q.wanted q.state) l.live
    || (some_of (λ q. is_late l.clock q.state) l.live
    || ltb held_max (length l.held)))))))))

-- a line of the table: the number, and whether its rule holds
pub record Line : Type 0 where
  pub number : ℕ
  pub holds : Bool

abbrev pub line : ℕ → Bool → Line
line n holds = record { number = n; holds = holds }

-- "tested in this order": the number of the first line whose rule holds
unfoldable pub first_of : List Line → Option ℕ
first_of [] = none
first_of (x ∷ xs) = if x.holds (some x.number) (first_of xs)

-- open: "R over 255"
abbrev pub open_lines : (given : ℕ) → List Line
open_lines given = line 3 (ltb reserved_max given) ∷ []

-- the lines of each call: "data over 248 bytes", "three live"; "reply buffer under 10 or data buffer under 248"; and "output
-- buffer under 266"
abbrev pub own_lines : (limit : ℕ) → Ledger → Call → List Line
own_lines limit l (submit fields bytes wanted clock) =
    line 4 (ltb max_data (length bytes)) ∷ line 5 (eqb (length l.live) limit) ∷ []
own_lines limit l (receive bytes reply buffer clock) =
    line 6 (ltb (length reply) (total 0) || ltb (length buffer) max_data) ∷ []
own_lines limit l (poll output clock) = line 6 (ltb (length output) (total max_len)) ∷ []

-- before them "endpoint malformed" and "clock below the last accepted reading". The lines of an endpoint (`lines`,
-- `refinement/specs/Refusals.antt`) come to the same refusal: law `same_refusal` (`refinement/proofs/Sound.antt`)
abbrev pub lines : (limit : ℕ) → Ledger → Call → List Line
lines limit l c = line 1 (malformed limit l) ∷ line 2 (ltb (reading_of c) l.clock) ∷ own_lines limit l c

-- the refusal of a call, if any. That of an endpoint, `refusal_of` (`refinement/specs/Refusals.antt`), is the same for one that is not
-- malformed: law `same_refusal` (`refinement/proofs/Sound.antt`)
abbrev pub refusal : (limit : ℕ) → Ledger → Call → Option ℕ
refusal limit l c = first_of (lines limit l c)
