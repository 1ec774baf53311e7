-- Document 01, "Faults we have shipped or nearly shipped": for each, the statement that shuts it out. They say in plain terms what
-- the definitions say by searches; and so does the last, of the order of poll's steps.
use Prim.Native.Nat.{ℕ, ◌+◌, ◌-◌, ◌≤◌}
use mathlib.Core.Bool.{true, not, ◌&&◌, cond as if}
use mathlib.Core.List.{List, [], ◌∷◌, ◌++◌}
use mathlib.Core.Option.{none, some, map}
use mathlib.Core.Path.{◌≡◌, refl, sym, ◌∙◌, ap}
use native.Mathlib.Omega.{arith}
use lib.Dec.{eqb, leb}
use borrow.Author.Tests.{eqb-true, le-leb}
use Rattle.message.specs.Bytes.{ack, nak, data_seq}
use Rattle.message.specs.Items.{damaged_payload, decided, scan}
use Rattle.message.proofs.Laws.{damaged_payload_removes_syn}
use Rattle.command.specs.Payload.{is_command, fields_in, rqid_in, data_in, answers}
use Rattle.message.proofs.Headers.{both}
use Rattle.link.specs.SequenceIds.{seq_after}
use Rattle.link.specs.Frames.{Frame, first_sent, acknowledged_by, with_mark}
use Rattle.ledger.specs.Lists.{All}
use Rattle.ledger.specs.Parts.{State, queued, in_flight, waiting, Request, Ledger, with_state, Search, nobody, somebody, oldest}
use Rattle.ledger.specs.Answers as answer
use Rattle.ledger.specs.Answers.{stray, Ending, no_response}
use Rattle.ledger.specs.Receiving as receiving
use Rattle.ledger.specs.Receiving.{only, flies, provided, acknowledged_in, on_ack, on_nak, is_sent, matches, command_in, on_response, on_data, on_message, ack_message}
use Rattle.ledger.specs.Polling as polling
use Rattle.ledger.specs.Polling.{response_time, overdue_in, queued_in}
use Rattle.claims.specs.PlainTerms.{counts, Matched}
use Rattle.ledger.proofs.Cases.{by_test}
use Rattle.ledger.proofs.States.{provided_test}
use Rattle.claims.proofs.Lists.{all_right}
use Rattle.ledger.proofs.Searches.{Looked, one_shows, look, find_oldest, find_nobody}

-- 1. "An ACK for an older SEQ ending the frame now in flight.": an ACK with another SEQ than that in flight does nothing
module _ (l : Ledger) (t seq : ℕ) (payload : List ℕ) where
  shown_seq : (s : State) {f : Frame} → acknowledged_in seq s ≡ some f → (s ≡ in_flight f) × (f.seq ≡ seq)
  shown_seq queued h = let z : ◌≡◌ {A = ℕ} 0 1 = cc in absurd (omega arith)
  shown_seq (waiting since) h = let z : ◌≡◌ {A = ℕ} 0 1 = cc in absurd (omega arith)
  shown_seq (in_flight g) {f} h =
      by_test (λ b. acknowledged_by g seq ≡ b → provided b g ≡ some f → (in_flight g ≡ in_flight f) × (f.seq ≡ seq))
      (acknowledged_by g seq)
      (λ b e k. let same : g ≡ f = cc in (ap {B = State} in_flight same, rw (sym same) (eqb-true g.seq seq e)))
      (λ b e k. let z : ◌≡◌ {A = ℕ} 0 1 = cc in absurd (omega arith))
      refl h

  pub other_ack_is_stray : All (λ q. (f : Frame) → q.state ≡ in_flight f → f.seq ≡ seq → ⊥) l.live
      → on_message l t ack seq payload ≡ only l t stray
  unfolding on_message
  other_ack_is_stray others = go (oldest (λ q. acknowledged_in seq q.state) l.live)
      (look (λ q. acknowledged_in seq q.state) l.live)
    where
      go : (s : Search Frame) → Looked (λ q. acknowledged_in seq q.state) l.live s → on_ack l t s ≡ only l t stray
      go nobody h = refl
      go (somebody b it f a) (one_shows among shown before) =
          let its = shown_seq it.state shown in
          let here = (all_right (λ q. (f : Frame) → q.state ≡ in_flight f → f.seq ≡ seq → ⊥) b (it ∷ a) (rw among at others)).0 in
          absurd (here f its.0 its.1)

-- 2. "A NAK that restarts the count of transmissions.": a NAK leaves every count
pub nak_keeps_counts : (l : Ledger) (t seq : ℕ) (payload : List ℕ) → counts (on_message l t nak seq payload).live ≡ counts l.live
unfolding on_message
nak_keeps_counts l t seq payload = go (oldest flies l.live) (look flies l.live)
  where
    behind : (b a : List Request) (it : Request) (f : Frame) → flies it ≡ some f
        → counts (b ++ (with_state (in_flight (with_mark f)) it ∷ a)) ≡ counts (b ++ (it ∷ a))
    behind [] a it f h = rw h
    behind (x ∷ b) a it f h = ap (map (λ (g : Frame). g.transmissions) (flies x) ∷◌) (behind b a it f h)

    go : (s : Search Frame) → Looked flies l.live s → counts (on_nak l t s).live ≡ counts l.live
    go nobody h = refl
    go (somebody b it f a) (one_shows among shown before) = behind b a it f shown ∙ ap counts (sym among)

-- 3. "A repeat left unacknowledged": every DATA_SEQ is replied to with an ACK of its SEQ, a repeat too
pub sequenced_is_acknowledged : (l : Ledger) (t seq : ℕ) (payload : List ℕ)
    → (on_message l t data_seq seq payload).reply ≡ ack_message seq
unfolding on_message
sequenced_is_acknowledged l t seq payload = refl

-- 4. "A response matched by request ID alone.": what a response ends agrees in every field
module _ (l : Ledger) (t : ℕ) (payload : List ℕ) (x : Ending) where
  every_field : (b a : List Request) (q : Request) → l.live ≡ b ++ (q ∷ a) → x.id ≡ q.id → matches (command_in payload) q ≡ true
      → Matched l payload x
  unfolding matches answers
  every_field b a q among ended h =
      let f = q.fields in
      let g = fields_in payload in
      let one = both (is_sent q.state) _ h in
      let two = both q.wanted _ one.1 in
      let three = both (eqb q.id (rqid_in payload)) _ two.1 in
      let four = both (eqb f.tc g.tc) _ three.1 in
      let five = both (eqb f.cid g.cid) _ four.1 in
      let six = both (eqb f.iid g.iid) _ five.1 in
      let seven = both (eqb f.tid g.sid) (eqb f.sid g.tid) six.1 in
      record {
        before = b;
        after = a;
        request = q;
        among = among;
        ended = ended;
        sent = one.0;
        wanted = two.0;
        rqid = eqb-true q.id (rqid_in payload) three.0;
        tc = eqb-true f.tc g.tc four.0;
        cid = eqb-true f.cid g.cid five.0;
        iid = eqb-true f.iid g.iid six.0;
        tid = eqb-true f.tid g.sid seven.0;
        sid = eqb-true f.sid g.tid seven.1;
      }

  abbrev told : receiving.Act
  told = record {
    word = answer.event (command_in payload);
    reply = [];
    ending = none;
    bytes = data_in payload;
    seen =
        l.seen;
    live = l.live;
  }

  abbrev response : receiving.Act
  response = on_response l t (command_in payload) (data_in payload)
      (oldest (λ q. provided (matches (command_in payload) q) tt) l.live)

  by_response : (s : Search (Unit {0})) → Looked (λ q. provided (matches (command_in payload) q) tt) l.live s
      → (on_response l t (command_in payload) (data_in payload) s).ending ≡ some x → Matched l payload x
  by_response nobody h ends = let z : ◌≡◌ {A = ℕ} 0 1 = cc in absurd (omega arith)
  by_response (somebody b it what a) (one_shows among shown before) ends =
      let named : x.id ≡ it.id = cc in every_field b a it among named (provided_test (matches (command_in payload) it) shown)

  pub response_matches_every_field : (on_data l t payload).ending ≡ some x → Matched l payload x
  unfolding on_data
  response_matches_every_field ends =
      let c = command_in payload in
      by_test (λ b. (if b (only l t answer.not_command) (if (leb 1 c.rqid && leb c.rqid l.reserved) told response)).ending
      ≡ some x
      → Matched l payload x) (not (is_command payload))
      (λ e h. let z : ◌≡◌ {A = ℕ} 0 1 = cc in absurd (omega arith))
      (λ e h. by_test (λ b. (if b told response).ending ≡ some x → Matched l payload x)
      (leb 1 c.rqid && leb c.rqid l.reserved)
      (λ e h. let z : ◌≡◌ {A = ℕ} 0 1 = cc in absurd (omega arith))
      (λ e h. by_response (oldest (λ q. provided (matches c q) tt) l.live) (look (λ q. provided (matches c q) tt) l.live) h)
      h)
      ends

-- 5. "The search going on after the whole damaged message, swallowing the next.": with a damaged payload only SYN is removed
pub damaged_removes_syn : (xs : List ℕ) {d r : ℕ} → scan xs ≡ decided damaged_payload d r → r ≡ 2
damaged_removes_syn xs h = damaged_payload_removes_syn xs h

-- Poll's step 1 comes first: the oldest waiting request whose time is up ends, whatever else is due
pub overdue_ends_first : (l : Ledger) (t : ℕ) (b a : List Request) (q : Request) (since : ℕ) → l.live ≡ b ++ (q ∷ a)
    → q.state ≡ waiting since → since + response_time ≤ t → All (λ x. overdue_in t x.state ≡ none) b
    → polling.act l t ≡ polling.ends l t no_response b q a
unfolding polling.act
overdue_ends_first l t b a q since among waits late none_before = rw (oldest_here among)
  where
    overdue : overdue_in t q.state ≡ some tt
    overdue = rw (waits, le-leb response_time (t - since) (omega arith))

    find : (b : List Request) → All (λ x. overdue_in t x.state ≡ none) b
        → oldest (λ x. overdue_in t x.state) (b ++ (q ∷ a)) ≡ somebody b q tt a
    find b h = find_oldest (λ x. overdue_in t x.state) b a q overdue h

    oldest_here : l.live ≡ b ++ (q ∷ a) → oldest (λ x. overdue_in t x.state) l.live ≡ somebody b q tt a
    oldest_here e = rw e (find b none_before)

-- Poll's step 3: where none is overdue and none in flight, the oldest queued request is sent, with the next SEQ
pub oldest_queued_is_sent : (l : Ledger) (t : ℕ) (b a : List Request) (q : Request) → l.live ≡ b ++ (q ∷ a) → q.state ≡ queued
    → All (λ x. overdue_in t x.state ≡ none) l.live → All (λ x. flies x ≡ none) l.live
    → All (λ x. queued_in x.state ≡ none) b
    → polling.act l t ≡ polling.sends l t (first_sent l.next_seq t) (seq_after l.next_seq) b q a
unfolding polling.act
oldest_queued_is_sent l t b a q among waits current free none_before =
    rw (
      find_nobody (λ x. overdue_in t x.state) l.live current,
      find_nobody flies l.live free,
      queue among,
    )
  where
    shown : queued_in q.state ≡ some tt
    shown = rw waits

    queue : l.live ≡ b ++ (q ∷ a) → oldest (λ x. queued_in x.state) l.live ≡ somebody b q tt a
    queue e = rw e (find_oldest (λ x. queued_in x.state) b a q shown none_before)
