-- Where a search finds: the first row that passes a test is the ledger's "oldest" that shows something.
use Prim.Native.Nat.{ℕ, zero, suc, ◌+◌, ◌≤◌, ◌<◌}
use mathlib.Core.Bool.{Bool, true, false, true≢false, not, cond as if}
use mathlib.Core.List.{List, [], ◌∷◌}
use mathlib.Core.Option.{Option, none, some}
use mathlib.Core.Path.{◌≡◌, refl, sym, ap}
use native.Mathlib.Omega.{arith}
use lib.Dec.{ltb}
use lib.ListN.{length, take, drop, get_or}
use borrow.Author.Tests.{ltb-true, ltb-false, lt-ltb, le-ltb}
use Rattle.std.specs.Prelude.{Some, None}
use Rattle.std.specs.Prelude as std
use Rattle.std.specs.List.{position, position_or_len}
use Rattle.std.proofs.lemmas.List.Sums.{passes_at_first, position_or_len_is}
use Rattle.link.specs.Frames as link
use Rattle.ledger.specs.Parts as ledger
use Rattle.ledger.specs.Parts.{Search, nobody, somebody, front_or, oldest}
use Rattle.ledger.specs.Receiving.{provided, flies, frame_in}
use Rattle.link.specs.declared.frame.Frame.{Frame}
use Rattle.endpoint.specs.declared.State.{State}
use Rattle.endpoint.specs.declared.State.TheVariants.{InFlight}
use Rattle.endpoint.proofs.Rows.{blank_row}
use Rattle.endpoint.specs.Endpoint.{state_of, request_of, room_at, requests_from}
use Rattle.endpoint.specs.Places.{blank, at, after}
use Rattle.endpoint.specs.declared.Request.{Request}
use Rattle.live_search.specs.Searching.{is_shown, IsFlight}

-- something is shown exactly where a test passes
pub shown_provided : {A : Type 0} (passes : Bool) (what : A) → is_shown (provided passes what) ≡ passes
shown_provided true what = refl
shown_provided false what = refl

-- what `position` answers: no place, or the first one
none_by : (a b : ℕ) (t : Bool) → ltb a b ≡ t → if t (Some a) None ≡ None → b ≤ a
none_by a b true test h = cc
none_by a b false test h = ltb-false a b test

one_by : (a b i : ℕ) (t : Bool) → ltb a b ≡ t → if t (Some a) None ≡ Some i → (a ≡ i) × (i < b)
one_by a b i true test h = let same : a ≡ i = cc in let less = ltb-true a b test in (same, omega arith)
one_by a b i false test h = cc

module _ {A : Type 0} (test : A → Bool) (xs : List A) where
  pub position_none : position test xs ≡ None → length xs ≤ position_or_len test xs
  position_none h = none_by (position_or_len test xs) (length xs) (ltb (position_or_len test xs) (length xs)) refl h

  pub position_one : (i : ℕ) → position test xs ≡ Some i → (position_or_len test xs ≡ i) × (i < length xs)
  position_one i h = one_by (position_or_len test xs) (length xs) i (ltb (position_or_len test xs) (length xs)) refl h

-- none is found: nobody shows it
none_front : {A : Type 0} (o : Option A) (q : ledger.Request) (qs : List ledger.Request) (rest : Search A) (n : ℕ)
    → (length qs ≤ n → rest ≡ nobody) → suc (length qs) ≤ if (not (is_shown o)) (1 + n) 0 → front_or o q qs rest ≡ nobody
none_front none q qs rest n behind-none h = rw (behind-none (omega arith))
none_front (some w) q qs rest n behind-none h = absurd (omega arith)

pub oldest_none : {A : Type 0} (f : ledger.Request → Option A) (live : List ledger.Request)
    → length live ≤ position_or_len (λ q. is_shown (f q)) live → oldest f live ≡ nobody
unfolding oldest
oldest_none f [] h = refl
oldest_none f (q ∷ qs) h =
    none_front (f q) q qs (oldest f qs) (position_or_len (λ q. is_shown (f q)) qs) (λ less. oldest_none f qs less) h

-- one is found: it is the oldest
found_behind : (b : Bool) (n i : ℕ) → if (not b) (1 + n) 0 ≡ suc i → (b ≡ false) × (n ≡ i)
found_behind true n i h = absurd (omega arith)
found_behind false n i h = (refl, omega arith)

hidden : {A : Type 0} (o : Option A) → is_shown o ≡ false → o ≡ none
hidden none h = refl
hidden (some w) h = absurd (true≢false h)

pub oldest_some : {A : Type 0} (f : ledger.Request → Option A) (live : List ledger.Request) (i : ℕ) {w : A}
    → position_or_len (λ q. is_shown (f q)) live ≡ i → i < length live → f (get_or live i blank) ≡ some w
    → oldest f live ≡ somebody (take i live) (get_or live i blank) w (drop (suc i) live)
unfolding oldest
oldest_some f [] i at less shown = absurd (omega arith)
oldest_some f (q ∷ qs) zero at less shown = rw shown
oldest_some f (q ∷ qs) (suc i) at less shown =
    let behind-it = found_behind (is_shown (f q)) (position_or_len (λ q. is_shown (f q)) qs) i at in
    rw (hidden (f q) behind-it.0, oldest_some f qs i behind-it.1 (omega arith) shown)

-- and something is shown by it
pub record Showing {A : Type 0} (f : ledger.Request → Option A) (live : List ledger.Request) (i : ℕ) : Type 0 where
  pub what : A
  pub shown : f (get_or live i blank) ≡ some what

visible : {A : Type 0} (f : ledger.Request → Option A) (live : List ledger.Request) (i : ℕ) (o : Option A)
    → f (get_or live i blank) ≡ o → is_shown o ≡ true → Showing f live i
visible f live i none is h = absurd (true≢false (sym h))
visible f live i (some w) is h = record { what = w; shown = is }

pub found_shows : {A : Type 0} (f : ledger.Request → Option A) (live : List ledger.Request) (i : ℕ)
    → position_or_len (λ q. is_shown (f q)) live ≡ i → i < length live → Showing f live i
found_shows f live i there less =
    let inside : position_or_len (λ q. is_shown (f q)) live < length live = omega arith in
    visible f live i (f (get_or live i blank)) refl (rw there at (passes_at_first (λ q. is_shown (f q)) live blank inside))

-- a test that ignores the data finds the same row without them
pub first_rows : (test : ledger.Request → Bool) (bare : Request → Bool) → ((q : Request) (b : List ℕ) → test (request_of q b) ≡ bare q)
    → (rows : List Request) (k : ℕ) (store : List ℕ) → position_or_len test (requests_from k rows store) ≡ position_or_len bare rows
unfolding requests_from
first_rows test bare same [] k store = refl
first_rows test bare same (q ∷ qs) k store = rw (same q (room_at store k q.len), first_rows test bare same qs (suc k) store)

-- what a search of the rows by a test says: no row passes, or this one does, and none before it. It is what `position` answers
abbrev pub FirstRow : (Request → Bool) → std.Option ℕ → List Request → Type 0
FirstRow test None rows = (k : ℕ) → k < length rows → test (get_or rows k blank_row) ≡ false
FirstRow test (Some row) rows = (row < length rows) × (test (get_or rows row blank_row) ≡ true)
    × ((k : ℕ) → k < row → test (get_or rows k blank_row) ≡ false)

pub first_row : (test : Request → Bool) (found : std.Option ℕ) (rows : List Request) → FirstRow test found rows → found ≡ position test rows
first_row test None rows first =
    let end = position_or_len_is test rows (length rows) blank_row (omega arith) first (λ less. absurd (omega arith)) in
    rw (end, le-ltb (length rows) (length rows) (omega arith))
first_row test (Some row) rows first =
    let less = first.0 in
    let there = position_or_len_is test rows row blank_row (omega arith) first.2 (λ inside. first.1) in
    rw (there, lt-ltb row (length rows) less)

-- the same where the frame in flight is looked for: it is the ledger's oldest
abbrev pub FirstFlight : std.Option (ℕ × Frame) → List Request → Type 0
FirstFlight None rows = (k : ℕ) → k < length rows → frame_in (state_of (get_or rows k blank_row).state) ≡ none
FirstFlight (Some found) rows = (found.0 < length rows) × ((get_or rows found.0 blank_row).state ≡ InFlight found.1)
    × ((k : ℕ) → k < found.0 → frame_in (state_of (get_or rows k blank_row).state) ≡ none)

none_flies : (rows : List Request) (n : ℕ) (store : List ℕ)
    → ((k : ℕ) → k < length rows → frame_in (state_of (get_or rows k blank_row).state) ≡ none)
    → oldest flies (requests_from n rows store) ≡ nobody
unfolding oldest requests_from
none_flies [] n store hidden-all = refl
none_flies (q ∷ qs) n store hidden-all =
    rw (hidden-all 0 (omega arith), none_flies qs (suc n) store (λ k less. hidden-all (suc k) (omega arith)))

one_flies : (rows : List Request) (i n : ℕ) (store : List ℕ) {f : link.Frame} → i < length rows
    → frame_in (state_of (get_or rows i blank_row).state) ≡ some f
    → ((k : ℕ) → k < i → frame_in (state_of (get_or rows k blank_row).state) ≡ none)
    → oldest flies (requests_from n rows store)
    ≡ somebody (take i (requests_from n rows store)) (at i (requests_from n rows store)) f (after i (requests_from n rows store))
unfolding oldest requests_from
one_flies [] i n store less shown hidden-before = absurd (omega arith)
one_flies (q ∷ qs) zero n store less shown hidden-before = rw shown
one_flies (q ∷ qs) (suc i) n store less shown hidden-before =
    rw (hidden-before 0 (omega arith), one_flies qs i (suc n) store (omega arith) shown (λ k before. hidden-before (suc k) (omega arith)))

pub flight_law : (found : std.Option (ℕ × Frame)) (rows : List Request) → FirstFlight found rows → IsFlight found rows
flight_law None rows first = record { finds = λ store. none_flies rows 0 store first; within = tt }
flight_law (Some found) rows first = record {
  finds = λ store. one_flies rows found.0 0 store first.0 (ap (λ (s : State). frame_in (state_of s)) first.1) first.2;
  within = first.0;
}
