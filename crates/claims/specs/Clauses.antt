-- Document 01, "What demand 3 compares": what is claimed of the calls and outcomes of a list, as statements.
use Rattle.std.specs.Prelude.{ℕ, ◌+◌, ◌*◌, ◌≤◌, ◌<◌, true, false, List, [], ◌∷◌, map, ◌≡◌, length}
use Rattle.std.proofs.Math.Option.{Option, some}
use Rattle.link.specs.Frames.{max_transmissions}
use Rattle.line.specs.Receiving.{held_max}
use Rattle.ledger.specs.Lists.{All}
use Rattle.ledger.specs.Parts.{reserved_max}
use Rattle.ledger.specs.Answers.{Ending, quiet, polled}
use Rattle.ledger.specs.Submitting.{last_id}
use Rattle.ledger.specs.Calls.{reading_of}
use Rattle.ledger.specs.Refusals.{flights, malformed}
use Rattle.ledger.specs.Runs.{Entry, Run}
use Rattle.claims.specs.Trace.{Asked, is_accepted, ending_in, frame_in, named_by, last_asked, endings, frames, live_after, requests}
use Rattle.claims.specs.ClockRule.{ClockRule}
use Rattle.claims.specs.Resting.{restless}

-- an element of a list
infix 20 ◌∈◌
pub data ◌∈◌ {A : Type 0} (x : A) : List A → Type 0 where
  here : {xs : List A} → x ∈ (x ∷ xs)
  there : {y : A} {xs : List A} → x ∈ xs → x ∈ (y ∷ xs)

-- "belongs to the last request before it whose ID it names .. and there always is one"; and this one is live
pub record Owner (id : ℕ) (before : List Entry) : Type 0 where
  pub request : Asked
  pub last : last_asked id before ≡ some request
  pub live : request ∈ live_after before

-- the ending and the frame of a call, if it has them
pub record Belongs (e : Entry) (before : List Entry) : Type 0 where
  pub ending : (x : Ending) → ending_in e.answer ≡ some x → Owner x.id before
  pub frame : (bytes : List ℕ) → frame_in e ≡ some bytes → Owner (named_by bytes) before

-- those of every call
abbrev pub AllBelong : List Entry → Type 0
AllBelong [] = Unit
AllBelong (e ∷ before) = Belongs e before × AllBelong before

-- "all of these are equal, SEQ included": each is equal to the first
abbrev pub Alike : List (List ℕ) → Type 0
Alike [] = Unit
Alike (f ∷ fs) = All (λ g. g ≡ f) fs

-- the frames of a request: three at most, all equal
pub record Few (frames : List (List ℕ)) : Type 0 where
  pub three : length frames ≤ max_transmissions
  pub alike : Alike frames

-- "A request is live until an ending that belongs to it.": live and not ended, or ended once
pub data Fate (h : List Entry) (a : Asked) : Type 0 where
  still_live : a ∈ live_after h → endings a.place h ≡ 0 → Fate h a
  has_ended : endings a.place h ≡ 1 → Fate h a

-- no two live requests have one ID
abbrev pub DistinctIds : List Asked → Type 0
DistinctIds [] = Unit
DistinctIds (a ∷ rest) = All (λ b. b.id ≡ a.id → ⊥) rest × DistinctIds rest

-- "Unreserved means above R."; and no ID is above the last
abbrev pub Unreserved : (reserved : ℕ) → Asked → Type 0
Unreserved r a = (r < a.id) × (a.id ≤ last_id)

-- the number of live requests leaves IDs enough, for every R: there are more unreserved ones
abbrev pub Enough : (limit : ℕ) → Type 0
Enough limit = limit + reserved_max < last_id

-- how long a request can be live: 3,000 ms for each that may be live, and 3,000 for its response
abbrev pub longest : (limit : ℕ) → ℕ
longest limit = 3000 * limit + 3000

-- a bound in milliseconds, at a call: a request accepted at T has ended once a poll at T + the bound or later answers quiet
abbrev pub EndsInTime : (bound : ℕ) → Entry → (before : List Entry) → Type 0
EndsInTime bound e before =
    (time : Option ℕ) → e.answer ≡ polled (quiet time)
    → All (λ a. a.time + bound ≤ reading_of e.call → endings a.place (e ∷ before) ≡ 1) (requests (e ∷ before))

-- and no accepted call comes later than that while a request is live
abbrev pub NoneLeft : (bound : ℕ) → Entry → (before : List Entry) → Type 0
NoneLeft bound e before = is_accepted e.answer ≡ true → All (λ a. reading_of e.call ≤ a.time + bound) (live_after before)

-- at every call of a list that keeps the clock rule up to it
abbrev pub Bounded : (bound : ℕ) → List Entry → Type 0
Bounded bound [] = Unit
Bounded bound (e ∷ before) = (ClockRule (e ∷ before) → EndsInTime bound e before × NoneLeft bound e before) × Bounded bound before

-- what is claimed of calls and outcomes alone, where at most `limit` requests may be live and IDs up to `reserved` are events'
pub record OutcomeClaims (limit reserved : ℕ) (past : List Entry) : Type 0 where
  -- "An ending or a polled frame belongs to the last request before it whose ID it names"
  pub belong : AllBelong past
  -- requests end at most once, and are live until then
  pub once : (place : ℕ) → endings place past ≤ 1
  pub fates : All (Fate past) (requests past)
  -- "Its frame goes out" three times at most; "all of these are equal"
  pub alike : (place : ℕ) → Few (frames place past)
  -- the live requests: how many, and their IDs
  pub few : length (live_after past) ≤ limit
  pub distinct : DistinctIds (live_after past)
  pub unreserved : All (Unreserved reserved) (live_after past)
  -- polls at one reading answer something else than *quiet* at most so many times in a row, refused calls aside
  pub rests : (reading : ℕ) → restless reading past ≤ limit

-- what is claimed of the ledger itself
pub record LedgerClaims (limit reserved : ℕ) (s : Run) : Type 0 where
  -- R stays, and the live requests are those that calls and outcomes show
  pub same : s.ledger.reserved ≡ reserved
  pub shown : map (λ q. q.id) s.ledger.live ≡ map (λ a. a.id) (live_after s.past)
  -- "At most one is in flight."
  pub one : flights s.ledger.live ≤ 1
  -- "At most 265 bytes are held."
  pub held : length s.ledger.held ≤ held_max
  -- the next request ID is one that may be issued
  pub next : (reserved < s.ledger.next_id) × (s.ledger.next_id ≤ last_id)
  -- refusal 1 is never answered
  pub sound : malformed limit s.ledger ≡ false
