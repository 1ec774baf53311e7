-- What a call more does to the requests, endings and frames that a list of calls shows.
use Prim.Native.Nat.{ℕ, ◌+◌, ◌≤◌, ◌<◌}
use mathlib.Core.Bool.{false, cond as if}
use mathlib.Core.List.{List, [], ◌∷◌, ◌++◌}
use mathlib.Core.Option.{Option, none, some, map}
use mathlib.Core.Path.{◌≡◌, refl, sym, ◌∙◌, ap}
use native.Mathlib.Omega.{arith}
use lib.Dec.{eqb}
use lib.ListN.{length}
use borrow.Author.Tests.{eqb-true, eq-eqb, ne_eqb}
use Rattle.message.specs.Bytes.{le16, fields, header, body, message}
use Rattle.command.specs.Payload.{payload}
use Rattle.ledger.specs.Parts.{Request}
use Rattle.ledger.specs.Answers.{Ending}
use Rattle.ledger.specs.Polling.{frame_bytes}
use Rattle.ledger.specs.Runs.{Entry}
use Rattle.claims.specs.Trace.{Asked, id_in, asked_as, ending_in, frame_in, named_by, last_or, last_asked, owner, is_at, endings, frames, without, live_after, requests}
use Rattle.ledger.proofs.Cases.{by_test}
use Rattle.claims.proofs.Lists.{append-nil}

pub some_same : {x y : Asked} → some x ≡ some y → x ≡ y
some_same h = cc

-- a frame names its request
pub frame_names : (q : Request) (seq : ℕ) → named_by (frame_bytes q seq) ≡ q.id
unfolding message header fields body payload le16
frame_names q seq = omega arith

-- the last request of an ID has this ID, and came before
pub record Before (id : ℕ) (h : List Entry) (a : Asked) : Type 0 where
  pub named : a.id ≡ id
  pub earlier : a.place < length h

pub asked_before : (id : ℕ) (h : List Entry) {a : Asked} → last_asked id h ≡ some a → Before id h a
unfolding last_asked
asked_before id [] e = let z : ◌≡◌ {A = ℕ} 0 1 = cc in absurd (omega arith)
asked_before id (e ∷ h) {a} last = go (id_in e.answer) (λ k. asked_before id h k) last
  where
    further : Before id h a → Before id (e ∷ h) a
    further b = let earlier = b.earlier in record { named = b.named; earlier = omega arith }

    go : (o : Option ℕ) → (last_asked id h ≡ some a → Before id h a)
        → last_or id (map (asked_as e (length h)) o) (last_asked id h) ≡ some a
        → Before id (e ∷ h) a
    go none rest k = further (rest k)
    go (some i) rest k =
        by_test (λ b. if b (some (asked_as e (length h) i)) (last_asked id h) ≡ some a
        → Before id (e ∷ h) a) (eqb i id)
        (λ t k.
        let at = ap (λ (x : Asked). x.place) (some_same k) in
        let named = ap (λ (x : Asked). x.id) (some_same k) in
        let same_id = eqb-true i id t in
        record { named = omega arith; earlier = omega arith })
        (λ t k. further (rest k))
        k

-- two IDs whose last request is at one place are the same
pub one_name : (id id' : ℕ) (h : List Entry) {a a' : Asked} → last_asked id h ≡ some a → last_asked id' h ≡ some a'
    → a.place ≡ a'.place
    → id ≡ id'
unfolding last_asked
one_name id id' [] e e' same = let z : ◌≡◌ {A = ℕ} 0 1 = cc in absurd (omega arith)
one_name id id' (e ∷ h) {a} {a'} last last' same = go (id_in e.answer) (λ k k'. one_name id id' h k k' same) last last'
  where
    go : (o : Option ℕ) → (last_asked id h ≡ some a → last_asked id' h ≡ some a' → id ≡ id')
        → last_or id (map (asked_as e (length h)) o) (last_asked id h) ≡ some a
        → last_or id' (map (asked_as e (length h)) o) (last_asked id' h) ≡ some a'
        → id ≡ id'
    go none rest k k' = rest k k'
    go (some i) rest k k' =
        by_test (λ b. if b (some (asked_as e (length h) i)) (last_asked id h) ≡ some a → id ≡ id') (eqb i id)
        (λ t k.
        let at = ap (λ (x : Asked). x.place) (some_same k) in
        by_test (λ b. if b (some (asked_as e (length h) i)) (last_asked id' h) ≡ some a' → id ≡ id') (eqb i id')
        (λ t' k'. sym (eqb-true i id t) ∙ eqb-true i id' t')
        (λ t' k'. let b = (asked_before id' h k').earlier in absurd (omega arith))
        k')
        (λ t k.
        by_test (λ b. if b (some (asked_as e (length h) i)) (last_asked id' h) ≡ some a' → id ≡ id') (eqb i id')
        (λ t' k'.
        let at = ap (λ (x : Asked). x.place) (some_same k') in
        let b = (asked_before id h k).earlier in absurd (omega arith))
        (λ t' k'. rest k k')
        k')
        k

-- one call more, by what it shows
module _ (e : Entry) (h : List Entry) where
  pub asks_none : (id : ℕ) → id_in e.answer ≡ none → last_asked id (e ∷ h) ≡ last_asked id h
  unfolding last_asked
  asks_none id shown = rw shown

  pub asks_other : (id : ℕ) {i : ℕ} → id_in e.answer ≡ some i → (i ≡ id → ⊥) → last_asked id (e ∷ h) ≡ last_asked id h
  unfolding last_asked
  asks_other id {i} shown apart = rw (shown, ne_eqb i id apart)

  pub asks_it : {i : ℕ} → id_in e.answer ≡ some i → last_asked i (e ∷ h) ≡ some (asked_as e (length h) i)
  unfolding last_asked
  asks_it {i} shown = rw (shown, eq-eqb i i refl)

  pub ends_none : (k : ℕ) → ending_in e.answer ≡ none → endings k (e ∷ h) ≡ endings k h
  unfolding endings
  ends_none k shown = rw shown (omega arith)

  pub ends_one : (k : ℕ) {x : Ending} {a : Asked} → ending_in e.answer ≡ some x → last_asked x.id h ≡ some a
      → endings k (e ∷ h) ≡ (if (eqb a.place k) 1 0) + endings k h
  unfolding endings
  ends_one k shown last = rw (shown, last)

  pub sends_none : (k : ℕ) → frame_in e ≡ none → frames k (e ∷ h) ≡ frames k h
  unfolding frames
  sends_none k shown = rw shown

  pub sends_one : (k : ℕ) {f : List ℕ} {a : Asked} → frame_in e ≡ some f → last_asked (named_by f) h ≡ some a
      → frames k (e ∷ h) ≡ (if (eqb a.place k) (f ∷ []) []) ++ frames k h
  unfolding frames
  sends_one k shown last = rw (shown, last)

  pub live_ends : {x : Ending} {a : Asked} → id_in e.answer ≡ none → ending_in e.answer ≡ some x → last_asked x.id h ≡ some a
      → live_after (e ∷ h) ≡ without (some a) (live_after h)
  unfolding live_after
  live_ends {x} {a} asked shown last = rw (asked, shown, last) (append-nil (without (some a) (live_after h)))

keeps_all : (live : List Asked) → without none live ≡ live
unfolding without
keeps_all [] = refl
keeps_all (a ∷ rest) = ap (a ∷◌) (keeps_all rest)

module _ (e : Entry) (h : List Entry) where
  pub live_stays : id_in e.answer ≡ none → ending_in e.answer ≡ none → live_after (e ∷ h) ≡ live_after h
  unfolding live_after
  live_stays asked shown = rw (asked, shown) (append-nil (without none (live_after h)) ∙ keeps_all (live_after h))

  pub live_joins : {i : ℕ} → id_in e.answer ≡ some i → ending_in e.answer ≡ none
      → live_after (e ∷ h) ≡ live_after h ++ (asked_as e (length h) i ∷ [])
  unfolding live_after
  live_joins {i} asked shown = rw (asked, shown, keeps_all (live_after h))

  pub requests_stay : id_in e.answer ≡ none → requests (e ∷ h) ≡ requests h
  unfolding requests
  requests_stay asked = rw asked (append-nil (requests h))

  pub requests_join : {i : ℕ} → id_in e.answer ≡ some i → requests (e ∷ h) ≡ requests h ++ (asked_as e (length h) i ∷ [])
  unfolding requests
  requests_join asked = rw asked

-- nothing belongs to a place that no call has taken
elsewhere : (k : ℕ) (h : List Entry) → length h ≤ k → (o : Option ℕ) → is_at k (owner o h) ≡ false
elsewhere k h beyond none = refl
elsewhere k h beyond (some id) = go (last_asked id h) refl
  where
    go : (o : Option Asked) → last_asked id h ≡ o → is_at k o ≡ false
    go none last = refl
    go (some a) last = let b = (asked_before id h last).earlier in ne_eqb a.place k (λ same. omega arith)

pub none_ended : (h : List Entry) (k : ℕ) → length h ≤ k → endings k h ≡ 0
unfolding endings
none_ended [] k beyond = refl
none_ended (e ∷ h) k beyond =
    let short : length h ≤ k = omega arith in
    let rest = none_ended h k short in
    rw (elsewhere k h short (map (λ (x : Ending). x.id) (ending_in e.answer))) (omega arith)

pub none_sent : (h : List Entry) (k : ℕ) → length h ≤ k → frames k h ≡ []
unfolding frames
none_sent [] k beyond = refl
none_sent (e ∷ h) k beyond =
    let short : length h ≤ k = omega arith in
    rw (elsewhere k h short (map named_by (frame_in e))) (none_sent h k short)
