-- A table's statement in a form in which the prover computes each value once: before a call its input bytes, in a receive what the six
-- rules say of them, and after it the next ledger, are made numbers, lists and constructors, and the rest of the run is over those. A
-- table that is true in this form is true (`are_true`). Nothing here says what a call comes to: that is `step` in both forms, with the
-- search for the smallest number of bytes replaced by one test (`at_last`).
use Prim.Native.Nat.{ℕ, zero, suc, ◌-◌}
use mathlib.Core.Bool.{Bool, true, false}
use mathlib.Core.List.{List, [], ◌∷◌, ◌++◌}
use mathlib.Core.Option.{Option, none, some}
use mathlib.Core.Path.{◌≡◌, refl, sym}
use lib.ListN.{length, take}
use Rattle.checksum.specs.Checksum.{checksum_of}
use Rattle.message.specs.Bytes.{message}
use Rattle.message.specs.Items as items
use Rattle.message.specs.Items.{damaged_header, forbidden, damaged_payload, Scan, undecided, decided, scan, part_with, payload_of}
use Rattle.line.specs.Receiving as line
use Rattle.line.proofs.Taking.{at_last}
use Rattle.link.specs.Frames.{Frame}
use Rattle.link.specs.Repeats.{Seen}
use Rattle.ledger.specs.Parts.{live_max, State, queued, in_flight, waiting, Request, Ledger}
use Rattle.ledger.specs.Answers.{Done}
use Rattle.ledger.specs.Receiving as receiving
use Rattle.ledger.specs.Receiving.{act, received_as}
use Rattle.ledger.specs.Calls.{Call, submit, receive, poll}
use Rattle.ledger.specs.Refusals.{refusal}
use Rattle.ledger.specs.Runs.{open_for, answers_to, step}
use Rattle.ledger.specs.Examples.{Row, Example, checksum, written, opening, calls, Agrees, IsTrue, AreTrue}

-- what is said of a number, with the number computed: the one before its successor
abbrev earlier : ℕ → (ℕ → Type 0) → Type 0
earlier zero says = Unit
earlier (suc n) says = says n

abbrev number : ℕ → (ℕ → Type 0) → Type 0
number n says = earlier (suc n) says

-- of a list of numbers
abbrev numbers : List ℕ → (List ℕ → Type 0) → Type 0
numbers [] says = says []
numbers (n ∷ ns) says = number n (λ n. numbers ns (λ ns. says (n ∷ ns)))

numbers_is : (ns : List ℕ) (says : List ℕ → Type 0) → numbers ns says → says ns
numbers_is [] says h = h
numbers_is (n ∷ ns) says h = numbers_is ns (λ ns. says (n ∷ ns)) h

-- of a truth value
abbrev truth : Bool → (Bool → Type 0) → Type 0
truth true says = says true
truth false says = says false

truth_is : (b : Bool) (says : Bool → Type 0) → truth b says → says b
truth_is true says h = h
truth_is false says h = h

-- of the last SEQ
abbrev last : Seen → (Seen → Type 0) → Type 0
last none says = says none
last (some seq) says = number seq (λ seq. says (some seq))

last_is : (seen : Seen) (says : Seen → Type 0) → last seen says → says seen
last_is none says h = h
last_is (some seq) says h = h

-- of a frame in flight
abbrev frame : Frame → (Frame → Type 0) → Type 0
frame f says =
    number f.seq (λ seq.
    number f.transmissions (λ n.
    number f.sent (λ sent.
    truth f.marked (λ marked. says (record { seq = seq; transmissions = n; sent = sent; marked = marked })))))

frame_is : (f : Frame) (says : Frame → Type 0) → frame f says → says f
frame_is f says h =
    truth_is f.marked (λ marked. says (record { seq = f.seq; transmissions = f.transmissions; sent = f.sent; marked = marked })) h

-- of a state
abbrev state : State → (State → Type 0) → Type 0
state queued says = says queued
state (in_flight f) says = frame f (λ f. says (in_flight f))
state (waiting since) says = number since (λ since. says (waiting since))

state_is : (s : State) (says : State → Type 0) → state s says → says s
state_is queued says h = h
state_is (in_flight f) says h = frame_is f (λ f. says (in_flight f)) h
state_is (waiting since) says h = h

-- of a live request: what it was submitted with stands in the table
abbrev request : Request → (Request → Type 0) → Type 0
request q says =
    number q.id (λ id.
    state q.state (λ s. says (record { id = id; fields = q.fields; bytes = q.bytes; wanted = q.wanted; state = s })))

request_is : (q : Request) (says : Request → Type 0) → request q says → says q
request_is q says h =
    state_is q.state (λ s. says (record { id = q.id; fields = q.fields; bytes = q.bytes; wanted = q.wanted; state = s })) h

abbrev requests : List Request → (List Request → Type 0) → Type 0
requests [] says = says []
requests (q ∷ qs) says = request q (λ q. requests qs (λ qs. says (q ∷ qs)))

requests_is : (qs : List Request) (says : List Request → Type 0) → requests qs says → says qs
requests_is [] says h = h
requests_is (q ∷ qs) says h =
    requests_is qs (λ qs. says (q ∷ qs)) (request_is q (λ q. requests qs (λ qs. says (q ∷ qs))) h)

-- of a ledger: its R and its clock stand in the table
abbrev ledger_with : Ledger → (next_seq next_id : ℕ) → Seen → (live : List Request) (held : List ℕ) → Ledger
ledger_with l next_seq next_id seen live held =
    record { reserved = l.reserved; clock = l.clock; next_seq = next_seq; next_id = next_id; seen = seen; live = live; held = held }

abbrev ledger : Ledger → (Ledger → Type 0) → Type 0
ledger l says =
    number l.next_seq (λ next_seq.
    number l.next_id (λ next_id.
    last l.seen (λ seen.
    requests l.live (λ live.
    numbers l.held (λ held. says (ledger_with l next_seq next_id seen live held))))))

ledger_is : (l : Ledger) (says : Ledger → Type 0) → ledger l says → says l
ledger_is l says h =
    numbers_is l.held (λ held. says (ledger_with l l.next_seq l.next_id l.seen l.live held))
    (requests_is l.live (λ live. numbers l.held (λ held. says (ledger_with l l.next_seq l.next_id l.seen live held)))
    (last_is l.seen (λ seen.
    requests l.live (λ live.
    numbers l.held (λ held. says (ledger_with l l.next_seq l.next_id seen live held)))) h))

-- of what the six rules say
abbrev ruled : Scan → (Scan → Type 0) → Type 0
ruled (undecided d) says = number d (λ d. says (undecided d))
ruled (decided damaged_header d r) says = number d (λ d. number r (λ r. says (decided damaged_header d r)))
ruled (decided forbidden d r) says = number d (λ d. number r (λ r. says (decided forbidden d r)))
ruled (decided damaged_payload d r) says = number d (λ d. number r (λ r. says (decided damaged_payload d r)))
ruled (decided (items.message type seq len) d r) says =
    number type (λ type.
    number seq (λ seq.
    number len (λ len. number d (λ d. number r (λ r. says (decided (items.message type seq len) d r))))))

ruled_is : (s : Scan) (says : Scan → Type 0) → ruled s says → says s
ruled_is (undecided d) says h = h
ruled_is (decided damaged_header d r) says h = h
ruled_is (decided forbidden d r) says h = h
ruled_is (decided damaged_payload d r) says h = h
ruled_is (decided (items.message type seq len) d r) says h = h

-- what a receive that takes all its bytes is given by the line, from what the rules say of them
abbrev heard_as : Scan → (looked : List ℕ) (taken : ℕ) → line.Received
heard_as s looked n = record { answer = line.answered s; payload = part_with s looked; taken = n; held = line.left s looked }

heard_as_law : (held new : List ℕ) → line.decides (scan (held ++ take (length new - 1) new)) ≡ false
    → line.receive held new ≡ heard_as (scan (held ++ new)) (held ++ new) (length new)
unfolding payload_of
heard_as_law held new nothing = at_last held new nothing

-- what a receive comes to, by its refusal and by what the line gives
abbrev receives : Ledger → line.Received → (bytes reply buffer : List ℕ) (clock : ℕ) → Option ℕ → Done
receives l r bytes reply buffer t none = received_as l r (act l t r.answer r.payload) reply buffer t
receives l r bytes reply buffer t (some n) = answers_to l (receive bytes reply buffer t) (some n)

as_step : (l : Ledger) (bytes reply buffer : List ℕ) (t : ℕ)
    → receives l (line.receive l.held bytes) bytes reply buffer t (refusal live_max l (receive bytes reply buffer t))
    ≡ step live_max l (receive bytes reply buffer t)
unfolding step receiving.receive
as_step l bytes reply buffer t = go (refusal live_max l (receive bytes reply buffer t))
  where
    go : (o : Option ℕ) → receives l (line.receive l.held bytes) bytes reply buffer t o ≡ answers_to l (receive bytes reply buffer t) o
    go none = refl
    go (some n) = refl

-- of what a call comes to: only a receive's bytes are computed in a table, as a message's
abbrev done : Ledger → Call → (Done → Type 0) → Type 0
done l (submit fields bytes wanted clock) says = says (step live_max l (submit fields bytes wanted clock))
done l (receive bytes reply buffer clock) says =
    numbers bytes (λ bytes.
    (line.decides (scan (l.held ++ take (length bytes - 1) bytes)) ≡ false)
    × ruled (scan (l.held ++ bytes)) (λ s.
    says (receives l (heard_as s (l.held ++ bytes) (length bytes)) bytes reply buffer clock
    (refusal live_max l (receive bytes reply buffer clock)))))
done l (poll output clock) says = says (step live_max l (poll output clock))

done_is : (l : Ledger) (c : Call) (says : Done → Type 0) → done l c says → says (step live_max l c)
done_is l (submit fields bytes wanted clock) says h = h
done_is l (receive bytes reply buffer clock) says h =
    let given = numbers_is bytes (λ bytes.
    (line.decides (scan (l.held ++ take (length bytes - 1) bytes)) ≡ false)
    × ruled (scan (l.held ++ bytes)) (λ s.
    says (receives l (heard_as s (l.held ++ bytes) (length bytes)) bytes reply buffer clock
    (refusal live_max l (receive bytes reply buffer clock))))) h in
    let refusal-here = refusal live_max l (receive bytes reply buffer clock) in
    let told = ruled_is (scan (l.held ++ bytes)) (λ s.
    says (receives l (heard_as s (l.held ++ bytes) (length bytes)) bytes reply buffer clock refusal-here)) given.1 in
    rw (sym (as_step l bytes reply buffer clock), heard_as_law l.held bytes given.0) told
done_is l (poll output clock) says h = h

-- `Agrees`, `IsTrue` and `AreTrue` in this form
unfoldable pub AgreesOnce : Ledger → List Row → (held : ℕ) → Type 0
AgreesOnce l [] held = length l.held ≡ held
AgreesOnce l (row ∷ rows) held =
    done l row.call (λ d.
    (d.answer ≡ row.answer) × (d.buffers ≡ row.buffers) × ledger d.next (λ l. AgreesOnce l rows held))

unfoldable pub IsTrueOnce : Example → Type 0
IsTrueOnce (checksum bytes value) = checksum_of bytes ≡ value
IsTrueOnce (written type seq payload bytes) = message type seq payload ≡ bytes
IsTrueOnce (opening given a l) = ((open_for given).answer ≡ a) × ((open_for given).next ≡ l)
IsTrueOnce (calls from rows held) = AgreesOnce from rows held

unfoldable pub AreTrueOnce : List Example → Type 0
AreTrueOnce [] = Unit
AreTrueOnce (x ∷ xs) = IsTrueOnce x × AreTrueOnce xs

-- a call's row, of what the call comes to
abbrev RowIs : Row → List Row → (held : ℕ) → Done → Type 0
RowIs row rows held d = (d.answer ≡ row.answer) × (d.buffers ≡ row.buffers) × ledger d.next (λ l. AgreesOnce l rows held)

row_is : (l : Ledger) (row : Row) (rows : List Row) (held : ℕ) → AgreesOnce l (row ∷ rows) held
    → RowIs row rows held (step live_max l row.call)
unfolding AgreesOnce
row_is l row rows held h = done_is l row.call (RowIs row rows held) h

agrees : (l : Ledger) (rows : List Row) (held : ℕ) → AgreesOnce l rows held → Agrees l rows held
unfolding AgreesOnce Agrees
agrees l [] held e = e
agrees l (row ∷ rows) held h =
    let next = (step live_max l row.call).next in
    let this = row_is l row rows held h in
    (this.0, this.1, agrees next rows held (ledger_is next (λ l. AgreesOnce l rows held) this.2))

is_true : (x : Example) → IsTrueOnce x → IsTrue x
unfolding IsTrueOnce IsTrue
is_true (checksum bytes value) h = h
is_true (written type seq payload bytes) h = h
is_true (opening given a l) h = h
is_true (calls from rows held) h = agrees from rows held h

-- a table that is true in this form is true
pub are_true : (xs : List Example) → AreTrueOnce xs → AreTrue xs
unfolding AreTrueOnce AreTrue
are_true [] h = tt
are_true (x ∷ xs) h = (is_true x h.0, are_true xs h.1)
