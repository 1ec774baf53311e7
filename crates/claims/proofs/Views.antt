-- What a call may do to the live requests: one case for each kind of change, with all that led to it. Every theorem about lists of
-- calls goes by these cases.
use Prim.Native.Nat.{ℕ, ◌+◌, ◌≤◌, ◌-◌}
use mathlib.Core.Bool.{Bool, true, false, not, ◌&&◌, cond as if}
use mathlib.Core.List.{List, [], ◌∷◌, ◌++◌}
use mathlib.Core.Option.{Option, none, some, map}
use mathlib.Core.Logic.{◌⊎◌, inl, inr}
use mathlib.Core.Path.{◌≡◌, refl, ◌∙◌, ap}
use native.Mathlib.Omega.{arith}
use lib.Dec.{eqb, leb, ltb}
use lib.ListN.{length, take, drop}
use borrow.Author.Tests.{ltb-false, eqb-false}
use Rattle.message.specs.Bytes.{ack, nak, data_seq}
use Rattle.message.specs.Items as items
use Rattle.message.specs.Items.{damaged_header, damaged_payload, forbidden}
use Rattle.message.specs.Writing.{placed}
use Rattle.line.specs.Receiving as line
use Rattle.line.specs.Receiving.{held_max, more, item}
use Rattle.line.proofs.Laws.{receive_bounded}
use Rattle.command.specs.Payload.{Fields, max_data, is_command, data_in}
use Rattle.link.specs.SequenceIds.{seq_after}
use Rattle.link.specs.Frames.{Frame, with_mark, first_sent, due, may_go_again, sent_again}
use Rattle.link.specs.Repeats.{Seen, is_repeat, seen_after}
use Rattle.ledger.specs.Lists.{All}
use Rattle.ledger.specs.Parts.{State, queued, in_flight, waiting, Request, Ledger, with_state, Search, nobody, somebody, oldest}
use Rattle.ledger.specs.Answers as answer
use Rattle.ledger.specs.Answers.{Ending, Command, Poll, sent, ended, quiet, Answer, refused, opened, submitted, received, polled, Done}
use Rattle.ledger.specs.Submitting.{id_after, issued}
use Rattle.ledger.specs.Receiving as receiving
use Rattle.ledger.specs.Receiving.{Act, only, flies, provided, acknowledged_in, on_ack, on_nak, matches, on_response, command_in, on_data, on_sequenced, on_message, act, replying, remembering, nak_message, ack_message, received_as}
use Rattle.ledger.specs.Polling as polling
use Rattle.ledger.specs.Polling.{frame_bytes, polled_as, overdue_in, queued_in, earliest}
use Rattle.ledger.specs.Calls.{Call, submit, receive, poll, reading_of, lent_by}
use Rattle.ledger.specs.Refusals.{malformed, first_of, refusal}
use Rattle.ledger.specs.Runs.{step, answers_to}
use Rattle.claims.specs.Trace.{is_accepted, id_in, ending_in, first, sent_in}
use Rattle.ledger.proofs.Cases.{by_test}
use Rattle.ledger.proofs.States.{flies_state, acknowledged_state}
use Rattle.claims.proofs.Lists.{take_front}
use Rattle.ledger.proofs.Searches.{Looked, none_shows, one_shows, look}
use Rattle.claims.proofs.PollCases.{Acted, no_response_law, goes_again, gives_up, goes_first, quiet_free, quiet_busy, acted}

-- the time of a quiet answer
abbrev pub quiet_of : Poll → Option (Option ℕ)
quiet_of (sent n) = none
quiet_of (ended x) = none
quiet_of (quiet t) = some t

abbrev pub quiet_in : Answer → Option (Option ℕ)
quiet_in (refused number) = none
quiet_in opened = none
quiet_in (submitted id) = none
quiet_in (received r) = none
quiet_in (polled p) = quiet_of p

-- what an outcome shows of requests: an ID issued, an ending, a frame, a quiet time
pub record Shows (d : Done) (asked : Option ℕ) (ending : Option Ending) (frame : Option (List ℕ))
    (silence : Option (Option ℕ)) : Type 0 where
  pub asks : id_in d.answer ≡ asked
  pub ends : ending_in d.answer ≡ ending
  pub sends : sent_in d.answer (first d.buffers) ≡ frame
  pub rests : quiet_in d.answer ≡ silence

-- how a request goes from a state to another, and the frame that is sent with it
pub data Turn (l : Ledger) (t : ℕ) (q : Request) : State → State → Option (List ℕ) → Type 0 where
  acknowledges : {f : Frame} → q.wanted ≡ true → Turn l t q (in_flight f) (waiting t) none
  marks : {f : Frame} → Turn l t q (in_flight f) (in_flight (with_mark f)) none
  starts : Turn l t q queued (in_flight (first_sent l.next_seq t)) (some (frame_bytes q l.next_seq))
  sends_again : {f : Frame} → due f t ≡ true → may_go_again f ≡ true
      → Turn l t q (in_flight f) (in_flight (sent_again f t)) (some (frame_bytes q f.seq))

pub data Change (limit : ℕ) (l : Ledger) (t : ℕ) (d : Done) : Type 0 where
  stays : Shows d none none none none → d.next.live ≡ l.live → Change limit l t d
  joins : (q : Request) → q.state ≡ queued → q.id ≡ issued l → length q.bytes ≤ max_data → (length l.live ≡ limit → ⊥)
      → Shows d (some q.id) none none none → d.next.live ≡ l.live ++ (q ∷ []) → Change limit l t d
  leaves : (b a : List Request) (q : Request) (x : Ending) → l.live ≡ b ++ (q ∷ a) → x.id ≡ q.id
      → Shows d none (some x) none none → d.next.live ≡ b ++ a → Change limit l t d
  turns : (b a : List Request) (q : Request) (s : State) (frame : Option (List ℕ)) → l.live ≡ b ++ (q ∷ a)
      → Turn l t q q.state s frame
      -- a request is sent first where none is in flight, and it is the oldest queued
      → (q.state ≡ queued → All (λ x. flies x ≡ none) l.live × All (λ x. queued_in x.state ≡ none) b)
      → Shows d none none frame none → d.next.live ≡ b ++ (with_state s q ∷ a) → Change limit l t d
  -- a quiet poll: none is overdue; and none is in flight or queued, or the one in flight is not due
  rests_free : All (λ x. overdue_in t x.state ≡ none) l.live → All (λ x. flies x ≡ none) l.live
      → All (λ x. queued_in x.state ≡ none) l.live
      → Shows d none none none (some (map (◌- t) (earliest l.live))) → d.next.live ≡ l.live → Change limit l t d
  rests_busy : All (λ x. overdue_in t x.state ≡ none) l.live → (b a : List Request) (q : Request) (f : Frame)
      → l.live ≡ b ++ (q ∷ a) → q.state ≡ in_flight f → due f t ≡ false
      → Shows d none none none (some (map (◌- t) (earliest l.live))) → d.next.live ≡ l.live → Change limit l t d

-- what else a call leaves
pub record Keeps (l : Ledger) (t : ℕ) (n : Ledger) : Type 0 where
  pub reserved : n.reserved ≡ l.reserved
  pub clock : n.clock ≡ t
  pub ids : (n.next_id ≡ l.next_id) ⊎ (n.next_id ≡ id_after l.reserved (issued l))
  pub held : length l.held ≤ held_max → length n.held ≤ held_max

pub data View (limit : ℕ) (l : Ledger) (c : Call) (d : Done) : Type 0 where
  refuses : (n : ℕ) → d.answer ≡ refused n → d.buffers ≡ lent_by c → d.next ≡ l → View limit l c d
  accepts : l.clock ≤ reading_of c → is_accepted d.answer ≡ true → Keeps l (reading_of c) d.next
      → Change limit l (reading_of c) d → View limit l c d

-- what else an outcome says does not matter
alike : {limit t : ℕ} {l : Ledger} {d d' : Done} → id_in d'.answer ≡ id_in d.answer
    → ending_in d'.answer ≡ ending_in d.answer
    → sent_in d'.answer (first d'.buffers) ≡ sent_in d.answer (first d.buffers)
    → quiet_in d'.answer ≡ quiet_in d.answer
    → d'.next.live ≡ d.next.live → Change limit l t d → Change limit l t d'
alike {limit} {t} {l} {d} {d'} ask end send rest live change = go change
  where
    shown : {a : Option ℕ} {x : Option Ending} {f : Option (List ℕ)} {s : Option (Option ℕ)} → Shows d a x f s → Shows d' a x f s
    shown h = record { asks = ask ∙ h.asks; ends = end ∙ h.ends; sends = send ∙ h.sends; rests = rest ∙ h.rests }

    go : Change limit l t d → Change limit l t d'
    go (stays shows same) = stays (shown shows) (live ∙ same)
    go (joins q new named short room shows same) = joins q new named short room (shown shows) (live ∙ same)
    go (leaves b a q x among named shows same) = leaves b a q x among named (shown shows) (live ∙ same)
    go (turns b a q s frame among turn first shows same) = turns b a q s frame among turn first (shown shows) (live ∙ same)
    go (rests_free current free idle shows same) = rests_free current free idle (shown shows) (live ∙ same)
    go (rests_busy current b a q f among flying calm shows same) =
        rests_busy current b a q f among flying calm (shown shows) (live ∙ same)

module _ (limit : ℕ) (l : Ledger) (r : line.Received) (reply buffer : List ℕ) (t : ℕ) where
  -- what an act comes to
  abbrev Does : Act → Type 0
  Does a = Change limit l t (received_as l r a reply buffer t)

  calmly : (a : Act) → a.ending ≡ none → a.live ≡ l.live → Does a
  calmly a end live = stays (record { asks = refl; ends = end; sends = refl; rests = refl }) live

  with_reply : (bytes : List ℕ) (a : Act) → Does a → Does (replying bytes a)
  with_reply bytes a change = alike refl refl refl refl refl change

  with_seen : (seen : Seen) (a : Act) → Does a → Does (remembering seen a)
  with_seen seen a change = alike refl refl refl refl refl change

  -- what a message does, by its kind
  to_ack : (seq : ℕ) (s : Search Frame) → Looked (λ q. acknowledged_in seq q.state) l.live s → Does (on_ack l t s)
  to_ack seq nobody (none_shows h) = calmly (only l t answer.stray) refl refl
  to_ack seq (somebody b it f a) (one_shows among shown h) =
      let flying = acknowledged_state seq it.state shown in
      by_test (λ w. Does (if w (receiving.moves l t (waiting t) b it a)
      (receiving.ends l t answer.no_word answer.acknowledged [] b it a))) it.wanted
      (λ w. turns b a it (waiting t) none among (rw flying (acknowledges w))
      (λ e. let z : ◌≡◌ {A = ℕ} 0 1 = cc in absurd (omega arith))
      (record { asks = refl; ends = refl; sends = refl; rests = refl }) refl)
      (λ w. leaves b a it _ among refl (record { asks = refl; ends = refl; sends = refl; rests = refl }) refl)

  to_nak : (s : Search Frame) → Looked flies l.live s → Does (on_nak l t s)
  to_nak nobody (none_shows h) = calmly (only l t answer.stray) refl refl
  to_nak (somebody b it f a) (one_shows among shown h) =
      let flying = flies_state it.state shown in
      turns b a it (in_flight (with_mark f)) none among (rw flying marks) (λ e. let z : ◌≡◌ {A = ℕ} 0 1 = cc in absurd (omega arith))
      (record { asks = refl; ends = refl; sends = refl; rests = refl }) refl

  to_response : (c : Command) (bytes : List ℕ) (s : Search (Unit {0})) → Looked (λ q. provided (matches c q) tt) l.live s
      → Does (on_response l t c bytes s)
  to_response c bytes nobody (none_shows h) = calmly (only l t (answer.unmatched c)) refl refl
  to_response c bytes (somebody b it f a) (one_shows among shown h) =
      leaves b a it _ among refl (record { asks = refl; ends = refl; sends = refl; rests = refl }) refl

  to_data : (payload : List ℕ) → Does (on_data l t payload)
  unfolding on_data
  to_data payload =
      let c = command_in payload in
      let response = on_response l t c (data_in payload) (oldest (λ q. provided (matches c q) tt) l.live) in
      let told : Act = record {
        word = answer.event c;
        reply = [];
        ending = none;
        bytes = data_in payload;
        seen = l.seen;
        live =
            l.live;
      } in
      by_test (λ b. Does (if b (only l t answer.not_command) (if (leb 1 c.rqid && leb c.rqid l.reserved) told response)))
      (not (is_command payload))
      (λ e. calmly (only l t answer.not_command) refl refl)
      (λ e. by_test (λ b. Does (if b told response)) (leb 1 c.rqid && leb c.rqid l.reserved)
      (λ e. calmly told refl refl)
      (λ e. to_response c (data_in payload) (oldest (λ q. provided (matches c q) tt) l.live)
      (look (λ q. provided (matches c q) tt) l.live)))

  to_sequenced : (seq : ℕ) (payload : List ℕ) → Does (on_sequenced l t seq payload)
  to_sequenced seq payload =
      let fresh-one = remembering (seen_after l.seen seq) (on_data l t payload) in
      with_reply (ack_message seq) (if (is_repeat l.seen seq) (only l t answer.repeat) fresh-one)
      (by_test (λ b. Does (if b (only l t answer.repeat) fresh-one)) (is_repeat l.seen seq)
      (λ e. calmly (only l t answer.repeat) refl refl)
      (λ e. with_seen (seen_after l.seen seq) (on_data l t payload) (to_data payload)))

  to_message : (type seq : ℕ) (payload : List ℕ) → Does (on_message l t type seq payload)
  unfolding on_message
  to_message type seq payload =
      let acked = on_ack l t (oldest (λ q. acknowledged_in seq q.state) l.live) in
      let naked = on_nak l t (oldest flies l.live) in
      by_test (λ b. Does (if b acked (if (eqb type nak) naked
      (if (eqb type data_seq) (on_sequenced l t seq payload) (on_data l t payload)))))
      (eqb type ack)
      (λ e. to_ack seq (oldest (λ q. acknowledged_in seq q.state) l.live)
      (look (λ q. acknowledged_in seq q.state) l.live))
      (λ e. by_test (λ b. Does (if b naked (if (eqb type data_seq) (on_sequenced l t seq payload) (on_data l t payload))))
      (eqb type nak)
      (λ e. to_nak (oldest flies l.live) (look flies l.live))
      (λ e. by_test (λ b. Does (if b (on_sequenced l t seq payload) (on_data l t payload))) (eqb type data_seq)
      (λ e. to_sequenced seq payload)
      (λ e. to_data payload)))

  to_item : (i : line.Answer) (payload : List ℕ) → Does (act l t i payload)
  to_item more payload = calmly (only l t answer.no_word) refl refl
  to_item (item damaged_header) payload = calmly (replying nak_message (only l t answer.no_word)) refl refl
  to_item (item forbidden) payload = calmly (only l t answer.no_word) refl refl
  to_item (item damaged_payload) payload = calmly (replying nak_message (only l t answer.no_word)) refl refl
  to_item (item (items.message type seq len)) payload = to_message type seq payload

-- a frame stands at the front of the output
put_in_front : (bytes output : List ℕ) → take (length bytes) (placed 0 bytes output) ≡ bytes
unfolding placed
put_in_front bytes [] = take_front bytes (drop (0 + length bytes) [])
put_in_front bytes (x ∷ xs) = take_front bytes (drop (0 + length bytes) (x ∷ xs))

module _ (limit : ℕ) (l : Ledger) (output : List ℕ) (t : ℕ) where
  -- a poll, by what it does
  to_sending : (b a : List Request) (it : Request) (f : Frame) (next : ℕ) → l.live ≡ b ++ (it ∷ a)
      → Turn l t it it.state (in_flight f) (some (frame_bytes it f.seq))
      → (it.state ≡ queued → All (λ x. flies x ≡ none) l.live × All (λ x. queued_in x.state ≡ none) b)
      → Change limit l t (polled_as l (polling.sends l t f next b it a) output t)
  to_sending b a it f next among turn first =
      turns b a it (in_flight f) (some (frame_bytes it f.seq)) among turn first
      (record {
        asks = refl;
        ends = refl;
        sends = ap {B = Option (List ℕ)} some
            (put_in_front (frame_bytes it f.seq) output);
        rests = refl;
      })
      refl

  to_ending : (cause : answer.Cause) (b a : List Request) (it : Request) → l.live ≡ b ++ (it ∷ a)
      → Change limit l t (polled_as l (polling.ends l t cause b it a) output t)
  to_ending cause b a it among = leaves b a it _ among refl (record { asks = refl; ends = refl; sends = refl; rests = refl }) refl

  to_poll : (a : polling.Act) → Acted l t a → Change limit l t (polled_as l a output t)
  to_poll a (no_response_law b x q among late) = to_ending answer.no_response b x q among
  to_poll a (goes_again b x q f among flying late may) =
      to_sending b x q (sent_again f t) l.next_seq among (rw flying (sends_again late may))
      (λ e. let z : ◌≡◌ {A = ℕ} 0 1 = cc in absurd (omega arith))
  to_poll a (gives_up b x q f among flying late) = to_ending answer.no_acknowledgement b x q among
  to_poll a (goes_first b x q among new free idle) =
      to_sending b x q (first_sent l.next_seq t) (seq_after l.next_seq) among (rw new starts) (λ e. (free, idle))
  to_poll a (quiet_free current free idle) =
      rests_free current free idle (record { asks = refl; ends = refl; sends = refl; rests = refl }) refl
  to_poll a (quiet_busy current b x q f among flying calm) =
      rests_busy current b x q f among flying calm (record { asks = refl; ends = refl; sends = refl; rests = refl }) refl

-- a call that the table does not refuse
pub record Passes (limit : ℕ) (l : Ledger) (c : Call) : Type 0 where
  pub sound : malformed limit l ≡ false
  pub clock : l.clock ≤ reading_of c

passed : (holds : Bool) (n : ℕ) (rest : Option ℕ) → if holds (some n) rest ≡ none → (holds ≡ false) × (rest ≡ none)
passed true n rest h = let z : ◌≡◌ {A = ℕ} 0 1 = cc in absurd (omega arith)
passed false n rest h = (refl, h)

passes : (limit : ℕ) (l : Ledger) (c : Call) → refusal limit l c ≡ none → Passes limit l c
unfolding first_of
passes limit l c h =
    let one = passed (malformed limit l) 1 _ h in
    let two = passed (ltb (reading_of c) l.clock) 2 _ one.1 in
    record { sound = one.0; clock = ltb-false (reading_of c) l.clock two.0 }

-- a submit that passes has short data and finds room
pub has_room : (limit : ℕ) (l : Ledger) (fields : Fields) (bytes : List ℕ) (wanted : Bool) (t : ℕ)
    → refusal limit l (submit fields bytes wanted t) ≡ none → (length bytes ≤ max_data) × (length l.live ≡ limit → ⊥)
unfolding first_of
has_room limit l fields bytes wanted t h =
    let one = passed (malformed limit l) 1 _ h in
    let two = passed (ltb t l.clock) 2 _ one.1 in
    let four = passed (ltb max_data (length bytes)) 4 _ two.1 in
    let five = passed (eqb (length l.live) limit) 5 _ four.1 in
    (ltb-false max_data (length bytes) four.0, eqb-false (length l.live) limit five.0)

-- a receive by its item, with what it keeps
to_receive : (limit : ℕ) (l : Ledger) (bytes reply buffer : List ℕ) (t : ℕ)
    → (is_accepted (receiving.receive l bytes reply buffer t).answer ≡ true) × Keeps l t
    (receiving.receive l bytes reply buffer t).next
    × Change limit l t (receiving.receive l bytes reply buffer t)
unfolding receiving.receive
to_receive limit l bytes reply buffer t =
    let r = line.receive l.held bytes in (
      refl,
      record { reserved = refl; clock = refl; ids = inl refl; held = receive_bounded l.held bytes },
      to_item limit l r reply buffer t r.answer r.payload,
    )

-- an accepted call
accepted : (limit : ℕ) (l : Ledger) (c : Call) → refusal limit l c ≡ none → View limit l c (answers_to l c none)
accepted limit l (submit fields bytes wanted t) h =
    let room = has_room limit l fields bytes wanted t h in
    accepts (passes limit l (submit fields bytes wanted t) h).clock refl
    (record { reserved = refl; clock = refl; ids = inr refl; held = λ k. k })
    (joins (record { id = issued l; fields = fields; bytes = bytes; wanted = wanted; state = queued }) refl refl room.0 room.1
    (record { asks = refl; ends = refl; sends = refl; rests = refl }) refl)
accepted limit l (receive bytes reply buffer t) h =
    accepts (passes limit l (receive bytes reply buffer t) h).clock (to_receive limit l bytes reply buffer t).0
    (to_receive limit l bytes reply buffer t).1 (to_receive limit l bytes reply buffer t).2
accepted limit l (poll output t) h = go (polling.act l t) (to_poll limit l output t (polling.act l t) (acted l t))
  where
    go : (a : polling.Act) → Change limit l t (polled_as l a output t) → View limit l (poll output t) (polled_as l a output t)
    go (polling.does p bytes next live) changed =
        accepts (passes limit l (poll output t) h).clock refl
        (record { reserved = refl; clock = refl; ids = inl refl; held = λ k. k }) changed

pub view : (limit : ℕ) (l : Ledger) (c : Call) → View limit l c (step limit l c)
unfolding step
view limit l c = go (refusal limit l c) refl
  where
    go : (o : Option ℕ) → refusal limit l c ≡ o → View limit l c (answers_to l c o)
    go none h = accepted limit l c h
    go (some n) h = refuses n refl refl refl
