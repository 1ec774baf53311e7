-- The live requests of the ledger are those that the list of calls shows, one by one: each with the same ID, not ended, and with
-- the frames that its state says were sent.
use Prim.Native.Nat.{ℕ, suc, ◌≤◌}
use mathlib.Core.Bool.{Bool, false, ◌||◌}
use mathlib.Core.List.{List, [], ◌∷◌, ◌++◌}
use mathlib.Core.Option.{Option, none, some}
use mathlib.Core.Path.{◌≡◌, refl, sym, ◌∙◌, ap}
use native.Mathlib.Omega.{arith}
use lib.Dec.{eqb}
use lib.ListN.{replicate, length-replicate}
use borrow.Author.Tests.{eqb-false, eq-eqb, ne_eqb}
use Rattle.link.specs.Frames.{max_transmissions}
use Rattle.ledger.specs.Lists.{All}
use Rattle.ledger.specs.Parts.{State, queued, in_flight, waiting, Request, Ledger, with_state}
use Rattle.ledger.specs.Submitting.{is_live}
use Rattle.ledger.specs.Polling.{frame_bytes}
use Rattle.ledger.specs.Runs.{Entry}
use Rattle.claims.specs.Trace.{Asked, last_asked, endings, frames, without}
use Rattle.ledger.proofs.Cases.{by_test}
use Rattle.claims.specs.Clauses.{◌∈◌, here, there, Alike, Few}
use Rattle.claims.proofs.Lists.{all_right}
use Rattle.claims.proofs.Views.{Turn, acknowledges, marks, starts, sends_again}
use Rattle.claims.proofs.Fine.{Steady, Distinct}
use Rattle.claims.proofs.Belonging.{some_same, one_name}

-- the frames that a state says were sent
abbrev pub Sent : Request → State → List (List ℕ) → Type 0
Sent q queued fs = fs ≡ []
Sent q (in_flight f) fs = fs ≡ replicate f.transmissions (frame_bytes q f.seq)
Sent q (waiting since) fs = Few fs

pub record Own (h : List Entry) (a : Asked) (q : Request) : Type 0 where
  pub last : last_asked q.id h ≡ some a
  pub open_still : endings a.place h ≡ 0
  pub sent : Sent q q.state (frames a.place h)

abbrev pub Owners : List Entry → List Asked → List Request → Type 0
Owners h [] [] = Unit
Owners h [] (q ∷ qs) = ⊥
Owners h (a ∷ as') [] = ⊥
Owners h (a ∷ as') (q ∷ qs) = Own h a q × Owners h as' qs

-- frames repeated are alike
all_same : (n : ℕ) (f : List ℕ) → All (λ g. g ≡ f) (replicate n f)
all_same ℕ.zero f = tt
all_same (suc n) f = (refl, all_same n f)

few_same : (n : ℕ) (f : List ℕ) → n ≤ max_transmissions → Few (replicate n f)
few_same n f small = record { three = (let long = length-replicate n f in omega arith); alike = alike n }
  where
    alike : (n : ℕ) → Alike (replicate n f)
    alike ℕ.zero = tt
    alike (suc n) = all_same n f

pub few_sent : (t : ℕ) (w : Bool) (q : Request) (s : State) (fs : List (List ℕ)) → Steady t w s → Sent q s fs → Few fs
few_sent t w q queued fs steady sent = rw sent (record { three = omega arith; alike = tt })
few_sent t w q (in_flight f) fs steady sent = rw sent (few_same f.transmissions (frame_bytes q f.seq) steady.1)
few_sent t w q (waiting since) fs steady sent = sent

-- what is sent with a turn
abbrev pub sent_more : Option (List ℕ) → List (List ℕ) → List (List ℕ)
sent_more none fs = fs
sent_more (some f) fs = f ∷ fs

pub sent_turn : (l : Ledger) (t : ℕ) (q : Request) {from to : State} {frame : Option (List ℕ)} (fs : List (List ℕ))
    → Turn l t q from to frame
    → Steady t q.wanted from → Sent q from fs → Sent q to (sent_more frame fs)
sent_turn l t q fs (acknowledges {f} wanted) steady sent = few_sent t q.wanted q (in_flight f) fs steady sent
sent_turn l t q fs marks steady sent = sent
sent_turn l t q fs starts steady sent = rw sent
sent_turn l t q fs (sends_again late may) steady sent = rw sent

-- the frames of a request do not depend on the state that it is in
pub sent_same : (q : Request) (now s : State) (fs : List (List ℕ)) → Sent q s fs → Sent (with_state now q) s fs
sent_same q now queued fs sent = sent
sent_same q now (in_flight f) fs sent = sent
sent_same q now (waiting since) fs sent = sent

-- the IDs of others are other IDs
abbrev pub Apart : Request → Request → Type 0
Apart q x = x.id ≡ q.id → ⊥

pub not_live : (id : ℕ) (qs : List Request) → is_live id qs ≡ false → All (λ x. x.id ≡ id → ⊥) qs
unfolding is_live
not_live id [] h = tt
not_live id (q ∷ qs) h =
    by_test (λ b. b || is_live id qs ≡ false → All (λ x. x.id ≡ id → ⊥) (q ∷ qs)) (eqb q.id id)
    (λ e h. let z : ◌≡◌ {A = ℕ} 0 1 = cc in absurd (omega arith))
    (λ e h. (eqb-false q.id id e, not_live id qs h))
    h

pub distinct_apart : (b a : List Request) (q : Request) → Distinct (b ++ (q ∷ a)) → All (Apart q) b × All (Apart q) a
unfolding is_live
distinct_apart [] a q h = (tt, not_live q.id a h.0)
distinct_apart (x ∷ b) a q h =
    let rest = distinct_apart b a q h.1 in
    let here = (all_right (λ y. y.id ≡ x.id → ⊥) b (q ∷ a) (not_live x.id (b ++ (q ∷ a)) h.0)).0 in
    ((λ same. here (sym same), rest.0), rest.1)

-- a live request has its owner
pub owner_of : (h : List Entry) (live : List Asked) (b a : List Request) (q : Request) → Owners h live (b ++ (q ∷ a))
    → (x : Asked) × Own h x q × x ∈ live
owner_of h [] [] a q own = absurd own
owner_of h (x ∷ live) [] a q own = (x, own.0, here)
owner_of h [] (y ∷ b) a q own = absurd own
owner_of h (x ∷ live) (y ∷ b) a q own = let rest = owner_of h live b a q own.1 in (rest.0, rest.1, there rest.2)

-- the owners after one call more, where each keeps its own
pub owners_kept : (h h' : List Entry) (P : Request → Type 0) → ((x : Asked) (q : Request) → P q → Own h x q → Own h' x q)
    → (live : List Asked) (qs : List Request) → All P qs → Owners h live qs → Owners h' live qs
owners_kept h h' P keep [] [] all own = tt
owners_kept h h' P keep [] (q ∷ qs) all own = absurd own
owners_kept h h' P keep (x ∷ live) [] all own = absurd own
owners_kept h h' P keep (x ∷ live) (q ∷ qs) all own = (
  keep x q all.0 own.0,
  owners_kept h h' P keep live qs all.1
      own.1,
)

-- where one joins
pub owners_join : (h : List Entry) (live : List Asked) (qs : List Request) (x : Asked) (q : Request) → Owners h live qs → Own h x q
    → Owners h (live ++ (x ∷ [])) (qs ++ (q ∷ []))
owners_join h [] [] x q own new = (new, tt)
owners_join h [] (y ∷ qs) x q own new = absurd own
owners_join h (z ∷ live) [] x q own new = absurd own
owners_join h (z ∷ live) (y ∷ qs) x q own new = (own.0, owners_join h live qs x q own.1 new)

module _ (h h' : List Entry) (q : Request) (keep : (x : Asked) (y : Request) → Apart q y → Own h x y → Own h' x y) where
  -- where one goes into another state
  pub owners_turn : (s : State) → ((x : Asked) → Own h x q → Own h' x (with_state s q)) → (live : List Asked) (b a : List Request)
      → All (Apart q) b → All (Apart q) a → Owners h live (b ++ (q ∷ a)) → Owners h' live (b ++ (with_state s q ∷ a))
  owners_turn s turn [] [] a before after own = absurd own
  owners_turn s turn (x ∷ live) [] a before after own = (turn x own.0, owners_kept h h' (Apart q) keep live a after own.1)
  owners_turn s turn [] (y ∷ b) a before after own = absurd own
  owners_turn s turn (x ∷ live) (y ∷ b) a before after own =
      (keep x y before.0 own.0, owners_turn s turn live b a before.1 after own.1)

  module _ (gone : Asked) (its : last_asked q.id h ≡ some gone) where
    elsewhere : (x : Asked) (y : Request) → Apart q y → Own h x y → eqb gone.place x.place ≡ false
    elsewhere x y apart own =
        ne_eqb gone.place x.place (λ same. apart (sym (one_name q.id y.id h its own.last same)))

    -- where one leaves, its owner leaves
    owners_after : (live : List Asked) (a : List Request) → All (Apart q) a → Owners h live a
        → Owners h' (without (some gone) live) a
    unfolding without
    owners_after [] [] apart own = tt
    owners_after [] (y ∷ a) apart own = absurd own
    owners_after (x ∷ live) [] apart own = absurd own
    owners_after (x ∷ live) (y ∷ a) apart own =
        rw (elsewhere x y apart.0 own.0) (keep x y apart.0 own.0, owners_after live a apart.1 own.1)

    pub owners_leave : (live : List Asked) (b a : List Request) → All (Apart q) b → All (Apart q) a → Owners h live (b ++ (q ∷ a))
        → Owners h' (without (some gone) live) (b ++ a)
    unfolding without
    owners_leave [] [] a before after own = absurd own
    owners_leave (x ∷ live) [] a before after own =
        let same : gone ≡ x = some_same (sym its ∙ own.0.last) in
        rw (eq-eqb gone.place x.place (ap (λ (y : Asked). y.place) same)) (owners_after live a after own.1)
    owners_leave [] (y ∷ b) a before after own = absurd own
    owners_leave (x ∷ live) (y ∷ b) a before after own =
        rw (elsewhere x y before.0 own.0) (keep x y before.0 own.0, owners_leave live b a before.1 after own.1)
