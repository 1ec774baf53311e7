-- Which parts of the ledger an accepted call may change, and that it keeps all others: each call by its cases.
use Prim.Native.Nat.{ℕ, zero, suc, ◌+◌, ◌<◌}
use mathlib.Core.Bool.{Bool, true, not, ◌&&◌, cond as if}
use mathlib.Core.List.{List, [], ◌∷◌, ◌++◌}
use mathlib.Core.Option.{Option, none, some}
use mathlib.Core.Path.{◌≡◌, refl, sym, ◌∙◌, ap}
use native.Mathlib.Omega.{arith}
use lib.Dec.{eqb, leb}
use lib.ListN.{length}
use borrow.Author.Tests.{eq-eqb, eqb-true}
use Rattle.message.specs.Bytes.{ack, nak, data_seq}
use Rattle.message.specs.Items as items
use Rattle.message.specs.Items.{damaged_header, damaged_payload, forbidden}
use Rattle.line.specs.Receiving as line
use Rattle.line.specs.Receiving.{more, item}
use Rattle.command.specs.Payload.{Fields, is_command, data_in}
use Rattle.link.specs.SequenceIds.{seq_after}
use Rattle.link.specs.Frames.{Frame, first_sent, due, may_go_again, sent_again}
use Rattle.link.specs.Repeats.{Seen, is_repeat, seen_after}
use Rattle.ledger.specs.Lists.{All}
use Rattle.ledger.specs.Parts.{State, queued, in_flight, waiting, Request, Ledger, with_state, Search, nobody, somebody, front_or, oldest}
use Rattle.ledger.specs.Answers as answer
use Rattle.ledger.specs.Answers.{Receipt, Poll, sent, Answer, submitted, received, polled}
use Rattle.ledger.specs.Submitting.{last_id, id_after, is_live, first_free, issued}
use Rattle.ledger.specs.Receiving as receiving
use Rattle.ledger.specs.Receiving.{Act, frame_in, flies, provided, acknowledged_in, matches, command_in, only, on_ack, on_nak, on_response, on_data, on_sequenced, on_message, act}
use Rattle.ledger.specs.Polling as polling
use Rattle.ledger.specs.Polling.{overdue_in, queued_in, or_else, step1, step2, step3, step4, polled_as}
use Rattle.ledger.specs.Calls.{submit, receive, poll}
use Rattle.ledger.specs.Refusals.{flies_once, flights, refusal}
use Rattle.ledger.specs.Runs.{step, answers_to}
use Rattle.ledger.specs.Changes as changes
use Rattle.ledger.specs.Changes.{ids_on, FirstNotLive, SubmitChanges, last_seq_after, Hears, ReceiveChanges, Moves, next_seq_after, PollChanges}
use Rattle.ledger.proofs.Cases.{by_test}
use Rattle.ledger.proofs.States.{flies_state, acknowledged_state, matched_state, queued_state, overdue_state}
use Rattle.ledger.proofs.Searches.{Looked, one_shows, look, find_oldest}
use Rattle.ledger.proofs.FreeId.{Unreserved, first_free_law}

-- submit
pub submit_changes : (limit : ℕ) (l : Ledger) (fields : Fields) (bytes : List ℕ) (wanted : Bool) (t id : ℕ)
    → (step limit l (submit fields bytes wanted t)).answer ≡ submitted id
    → SubmitChanges l fields bytes wanted t id (step limit l (submit fields bytes wanted t)).next
unfolding step
submit_changes limit l fields bytes wanted t id h = go (refusal limit l (submit fields bytes wanted t)) h
  where
    go : (o : Option ℕ) → (answers_to l (submit fields bytes wanted t) o).answer ≡ submitted id
        → SubmitChanges l fields bytes wanted t id (answers_to l (submit fields bytes wanted t) o).next
    go (some n) h = let z : ◌≡◌ {A = ℕ} 0 1 = cc in absurd (omega arith)
    go none h =
        let same : issued l ≡ id = cc in
        rw same (record { clock = refl; next_id = refl; live = refl; reserved = refl; next_seq = refl; seen = refl; held = refl })

-- the ID that is issued: those before it are live
record Place (r : ℕ) (live : List Request) (from id : ℕ) : Type 0 where
  steps : ℕ
  place : id ≡ ids_on r steps from
  passed : (k : ℕ) → k < steps → is_live (ids_on r k from) live ≡ true

passed_first : (r : ℕ) (live : List Request) (from n : ℕ) → is_live from live ≡ true
    → ((k : ℕ) → k < n → is_live (ids_on r k (id_after r from)) live ≡ true)
    → (k : ℕ) → k < suc n → is_live (ids_on r k from) live ≡ true
unfolding ids_on
passed_first r live from n here rest zero less = here
passed_first r live from n here rest (suc k) less = rest k (omega arith)

one_further : (r : ℕ) (live : List Request) (from id : ℕ) → is_live from live ≡ true → Place r live (id_after r from) id
    → Place r live from id
unfolding ids_on
one_further r live from id here p = record {
  steps = suc p.steps;
  place = p.place;
  passed = passed_first r live from p.steps here p.passed;
}

at_once : (r : ℕ) (live : List Request) (id : ℕ) → Place r live id id
unfolding ids_on
at_once r live id = record { steps = 0; place = refl; passed = λ k less. absurd (omega arith) }

first_place : (n r : ℕ) (live : List Request) (id : ℕ) → Place r live id (first_free n r live id)
unfolding first_free
first_place zero r live id = at_once r live id
first_place (suc n) r live id =
    by_test (λ b. Place r live id (if b (first_free n r live (id_after r id)) id)) (is_live id live)
    (λ e. one_further r live id (first_free n r live (id_after r id)) e (first_place n r live (id_after r id)))
    (λ e. at_once r live id)

-- and it is not, where fewer are live than there are IDs
pub issued_first : (l : Ledger) → length l.live + 1 + l.reserved < last_id → Unreserved l.reserved l.next_id
    → FirstNotLive l (issued l)
issued_first l room next =
    let p = first_place (length l.live) l.reserved l.live l.next_id in
    record {
      steps = p.steps;
      place = p.place;
      passed = p.passed;
      free = first_free_law l.reserved (omega arith) (length l.live) l.live (omega arith) room next;
    }

-- receive: what each kind of item does to the last SEQ and to the live requests
module _ (l : Ledger) (t : ℕ) where
  record Acts (last : Seen) (a : Act) : Type 0 where
    seen : a.seen ≡ last
    live : Hears t l.live a.live a.ending

  calm : (seen : Seen) (a : Act) → a.seen ≡ seen → a.ending ≡ none → a.live ≡ l.live → Acts seen a
  calm seen a same ending live = record { seen = same; live = changes.Hears.nobody ending live }

  on_ack_law : (seq : ℕ) (s : Search Frame) → Looked (λ q. acknowledged_in seq q.state) l.live s → Acts l.seen (on_ack l t s)
  on_ack_law seq nobody h = calm l.seen (only l t answer.stray) refl refl refl
  on_ack_law seq (somebody b it f a) (one_shows among shown others) =
      by_test (λ w. it.wanted ≡ w → Acts l.seen (if w (receiving.moves l t (waiting t) b it a)
      (receiving.ends l t answer.no_word answer.acknowledged [] b it a))) it.wanted
      (λ w e. record { seen = refl; live = changes.Hears.waits b it a f among (acknowledged_state seq it.state shown) w refl refl })
      (λ w e. record { seen = refl; live = changes.Hears.acknowledged b it a f among (acknowledged_state seq it.state shown) w refl refl })
      refl

  on_nak_law : (s : Search Frame) → Looked flies l.live s → Acts l.seen (on_nak l t s)
  on_nak_law nobody h = calm l.seen (only l t answer.stray) refl refl refl
  on_nak_law (somebody b it f a) (one_shows among shown others) =
      record { seen = refl; live = changes.Hears.marked b it a f among (flies_state it.state shown) refl refl }

  on_response_law : (c : answer.Command) (bytes : List ℕ) (s : Search (Unit {0}))
      → Looked (λ q. provided (matches c q) tt) l.live s → Acts l.seen (on_response l t c bytes s)
  on_response_law c bytes nobody h = calm l.seen (only l t (answer.unmatched c)) refl refl refl
  on_response_law c bytes (somebody b it what a) (one_shows among shown others) =
      let its = matched_state c it shown in
      record { seen = refl; live = changes.Hears.answered b it a among its.0 its.1 refl refl }

  on_data_law : (payload : List ℕ) → Acts l.seen (on_data l t payload)
  unfolding on_data
  on_data_law payload =
      let c = command_in payload in
      let response = on_response l t c (data_in payload) (oldest (λ q. provided (matches c q) tt) l.live) in
      let told : Act =
      record { word = answer.event c; reply = []; ending = none; bytes = data_in payload; seen = l.seen; live = l.live } in
      by_test (λ b. Acts l.seen (if b (only l t answer.not_command) (if (leb 1 c.rqid && leb c.rqid l.reserved) told response)))
      (not (is_command payload))
      (λ e. calm l.seen (only l t answer.not_command) refl refl refl)
      (λ e. by_test (λ b. Acts l.seen (if b told response)) (leb 1 c.rqid && leb c.rqid l.reserved)
      (λ e. calm l.seen told refl refl refl)
      (λ e. on_response_law c (data_in payload) (oldest (λ q. provided (matches c q) tt) l.live)
      (look (λ q. provided (matches c q) tt) l.live)))

  -- a repeat leaves the last SEQ, which is its own
  same_last : (seen : Seen) (seq : ℕ) → is_repeat seen seq ≡ true → seen ≡ some seq
  unfolding is_repeat
  same_last none seq h = let z : ◌≡◌ {A = ℕ} 0 1 = cc in absurd (omega arith)
  same_last (some last) seq h = ap some (eqb-true last seq h)

  on_sequenced_law : (seq : ℕ) (payload : List ℕ) → Acts (some seq) (on_sequenced l t seq payload)
  unfolding seen_after
  on_sequenced_law seq payload =
      let new = receiving.remembering (seen_after l.seen seq) (on_data l t payload) in
      by_test (λ b. Acts (some seq) (receiving.replying (receiving.ack_message seq) (if b (only l t answer.repeat) new)))
      (is_repeat l.seen seq)
      (λ e. record { seen = same_last l.seen seq e; live = changes.Hears.nobody refl refl })
      (λ e. record { seen = refl; live = (on_data_law payload).live })

  on_message_law : (type seq : ℕ) (payload : List ℕ) → Acts (if (eqb type data_seq) (some seq) l.seen) (on_message l t type seq payload)
  unfolding on_message
  on_message_law type seq payload =
      let acked = oldest (λ q. acknowledged_in seq q.state) l.live in
      by_test (λ b. Acts (if (eqb type data_seq) (some seq) l.seen) (if b (on_ack l t acked)
      (if (eqb type nak) (on_nak l t (oldest flies l.live)) (if (eqb type data_seq) (on_sequenced l t seq payload) (on_data l t payload)))))
      (eqb type ack)
      (λ e. rw (eqb-true type ack e) (on_ack_law seq acked (look (λ q. acknowledged_in seq q.state) l.live)))
      (λ e. by_test (λ b. Acts (if (eqb type data_seq) (some seq) l.seen) (if b (on_nak l t (oldest flies l.live))
      (if (eqb type data_seq) (on_sequenced l t seq payload) (on_data l t payload))))
      (eqb type nak)
      (λ e. rw (eqb-true type nak e) (on_nak_law (oldest flies l.live) (look flies l.live)))
      (λ e. by_test (λ b. Acts (if b (some seq) l.seen) (if b (on_sequenced l t seq payload) (on_data l t payload)))
      (eqb type data_seq)
      (λ e. on_sequenced_law seq payload)
      (λ e. on_data_law payload)))

  on_item : (i : line.Answer) (payload : List ℕ) → Acts (last_seq_after i l.seen) (act l t i payload)
  on_item more payload = calm l.seen (act l t more payload) refl refl refl
  on_item (item damaged_header) payload = calm l.seen (act l t (item damaged_header) payload) refl refl refl
  on_item (item forbidden) payload = calm l.seen (act l t (item forbidden) payload) refl refl refl
  on_item (item damaged_payload) payload = calm l.seen (act l t (item damaged_payload) payload) refl refl refl
  on_item (item (items.message type seq len)) payload = on_message_law type seq payload

pub receive_changes : (limit : ℕ) (l : Ledger) (bytes reply buffer : List ℕ) (t : ℕ) (r : Receipt)
    → (step limit l (receive bytes reply buffer t)).answer ≡ received r
    → ReceiveChanges l bytes t r (step limit l (receive bytes reply buffer t)).next
unfolding step receiving.receive
receive_changes limit l bytes reply buffer t r h = go (refusal limit l (receive bytes reply buffer t)) h
  where
    go : (o : Option ℕ) → (answers_to l (receive bytes reply buffer t) o).answer ≡ received r
        → ReceiveChanges l bytes t r (answers_to l (receive bytes reply buffer t) o).next
    go (some n) h = let z : ◌≡◌ {A = ℕ} 0 1 = cc in absurd (omega arith)
    go none h =
        let got = line.receive l.held bytes in
        let does = on_item l t got.answer got.payload in
        let same : r.item ≡ got.answer = cc in
        let named : (act l t got.answer got.payload).ending ≡ r.ending = cc in
        record {
          clock = refl;
          seen = rw same does.seen;
          live = rw named at does.live;
          held = refl;
          reserved = refl;
          next_seq = refl;
          next_id = refl;
        }

-- how many are in flight, by what the search for one finds
abbrev Count : Search Frame → ℕ → Type 0
Count nobody n = n ≡ 0
Count (somebody b it f a) n = 0 < n

count : (live : List Request) → Count (oldest flies live) (flights live)
unfolding oldest flights
count [] = refl
count (q ∷ qs) = go q.state (oldest flies qs) (flights qs) (count qs)
  where
    go : (s : State) (found : Search Frame) (n : ℕ) → Count found n → Count (front_or (frame_in s) q qs found) (flies_once s + n)
    go queued nobody n h = omega arith
    go queued (somebody b it f a) n h = omega arith
    go (waiting since) nobody n h = omega arith
    go (waiting since) (somebody b it f a) n h = omega arith
    go (in_flight f) found n h = omega arith

-- poll: what it does to the next SEQ and to the live requests, by its steps
module _ (l : Ledger) (t : ℕ) where
  data Acted : polling.Act → Type 0 where
    acted : {p : Poll} {bytes : List ℕ} {next : ℕ} {live : List Request} → next ≡ next_seq_after p (flights l.live) l.next_seq
        → Moves t l.next_seq l.live live p → Acted (polling.does p bytes next live)

  by_step4 : Acted (step4 l t)
  by_step4 = acted refl (changes.Moves.nobody _ refl refl)

  sends_first : flights l.live ≡ 0 → (b : List Request) (it : Request) (a : List Request) → l.live ≡ b ++ (it ∷ a)
      → it.state ≡ queued → Acted (polling.sends l t (first_sent l.next_seq t) (seq_after l.next_seq) b it a)
  sends_first free b it a among waits =
      let p : Poll = sent (length (polling.frame_bytes it l.next_seq)) in
      acted {p = p} (ap (λ n. next_seq_after p n l.next_seq) (sym free)) (changes.Moves.first b it a among waits refl refl)

  sends_again : (n : ℕ) → flights l.live ≡ suc n → (b : List Request) (it : Request) (a : List Request) (f : Frame)
      → l.live ≡ b ++ (it ∷ a) → it.state ≡ in_flight f → Acted (polling.sends l t (sent_again f t) l.next_seq b it a)
  sends_again n one b it a f among flying =
      let p : Poll = sent (length (polling.frame_bytes it f.seq)) in
      acted {p = p} (ap (λ n. next_seq_after p n l.next_seq) (sym one)) (changes.Moves.again b it a f among flying refl refl)

  by_step3 : (n : ℕ) → flights l.live ≡ n → (flight : Search Frame) → Count flight n → (queue : Search (Unit {0}))
      → Looked (λ q. queued_in q.state) l.live queue → Acted (or_else (step3 l t flight queue) (step4 l t))
  by_step3 n same (somebody b it f a) h queue q = by_step4
  by_step3 n same nobody h nobody q = by_step4
  by_step3 n same nobody h (somebody b it what a) (one_shows among shown others) =
      sends_first (same ∙ h) b it a among (queued_state it.state shown)

  by_step2 : (n : ℕ) → flights l.live ≡ n → (flight : Search Frame) → Count flight n → Looked flies l.live flight
      → (queue : Search (Unit {0})) → Looked (λ q. queued_in q.state) l.live queue
      → Acted (or_else (step2 l t flight) (or_else (step3 l t flight queue) (step4 l t)))
  by_step2 n same nobody h f queue q = by_step3 n same nobody h queue q
  by_step2 zero same (somebody b it f a) h (one_shows among shown others) queue q = absurd (omega arith)
  by_step2 (suc n) same (somebody b it f a) h (one_shows among shown others) queue q =
      let over = polling.ends l t answer.no_acknowledgement b it a in
      let again = polling.sends l t (sent_again f t) l.next_seq b it a in
      by_test (λ x. Acted (or_else (if x (some (if (may_go_again f) again over)) none) (step4 l t))) (due f t)
      (λ late. by_test (λ x. Acted (if x again over)) (may_go_again f)
      (λ may. sends_again n same b it a f among (flies_state it.state shown))
      (λ may. acted refl (changes.Moves.unacknowledged b it a f among (flies_state it.state shown) refl refl)))
      (λ calm. by_step4)

  by_step1 : (overdue : Search (Unit {0})) → Looked (λ q. overdue_in t q.state) l.live overdue
      → (rest : polling.Act) → Acted rest → Acted (or_else (step1 l t overdue) rest)
  by_step1 nobody h rest does = does
  by_step1 (somebody b it what a) (one_shows among shown others) rest does =
      let its = overdue_state t it.state shown in
      acted refl (changes.Moves.unanswered b it a its.since among its.state refl refl)

  by_steps : Acted (polling.act l t)
  unfolding polling.act
  by_steps =
      let flight = oldest flies l.live in
      let queue = oldest (λ q. queued_in q.state) l.live in
      by_step1 (oldest (λ q. overdue_in t q.state) l.live) (look (λ q. overdue_in t q.state) l.live)
      (or_else (step2 l t flight) (or_else (step3 l t flight queue) (step4 l t)))
      (by_step2 (flights l.live) refl flight (count l.live) (look flies l.live) queue (look (λ q. queued_in q.state) l.live))

pub poll_changes : (limit : ℕ) (l : Ledger) (output : List ℕ) (t : ℕ) (p : Poll)
    → (step limit l (poll output t)).answer ≡ polled p → PollChanges l t p (step limit l (poll output t)).next
unfolding step
poll_changes limit l output t p h = go (refusal limit l (poll output t)) h
  where
    accepted : (a : polling.Act) → Acted l t a → (polled_as l a output t).answer ≡ polled p
        → PollChanges l t p (polled_as l a output t).next
    accepted (polling.does p' bytes next live) (acted next_seq moves) h =
        let same : p' ≡ p = cc in
        record {
          clock = refl;
          next_seq = rw (sym same) next_seq;
          live = rw same at moves;
          reserved = refl;
          next_id = refl;
          seen = refl;
          held = refl;
        }

    go : (o : Option ℕ) → (answers_to l (poll output t) o).answer ≡ polled p
        → PollChanges l t p (answers_to l (poll output t) o).next
    go (some n) h = let z : ◌≡◌ {A = ℕ} 0 1 = cc in absurd (omega arith)
    go none h = accepted (polling.act l t) (by_steps l t) h

-- "ACK with the SEQ in flight: response wanted, it waits from this reading"
not_acknowledged : (seq : ℕ) (b : List Request) → flights b ≡ 0 → All (λ q. acknowledged_in seq q.state ≡ none) b
unfolding flights
not_acknowledged seq [] alone = tt
not_acknowledged seq (q ∷ b) alone = (here q.state (omega arith), not_acknowledged seq b (omega arith))
  where
    here : (s : State) → flies_once s ≡ 0 → acknowledged_in seq s ≡ none
    here queued h = refl
    here (in_flight f) h = absurd (omega arith)
    here (waiting since) h = refl

pub ack_waits : (l : Ledger) (t : ℕ) (b a : List Request) (q : Request) (f : Frame) (payload : List ℕ)
    → l.live ≡ b ++ (q ∷ a) → flights b ≡ 0 → q.state ≡ in_flight f → q.wanted ≡ true
    → (on_message l t ack f.seq payload).live ≡ b ++ (with_state (waiting t) q ∷ a)
unfolding on_message
ack_waits l t b a q f payload among alone flying wanted =
    let shown : acknowledged_in f.seq q.state ≡ some f = rw (flying, eq-eqb f.seq f.seq refl) in
    rw (among, find_oldest (λ x. acknowledged_in f.seq x.state) b a q shown (not_acknowledged f.seq b alone), wanted)
