-- What the changes of rows and store make of the live requests: one turns, joins, moves up, or leaves.
use Prim.Native.Nat.{ℕ, suc, ◌+◌, ◌-◌, ◌≤◌, ◌<◌}
use mathlib.Core.Bool.{Bool, true, false}
use mathlib.Core.List.{List, [], ◌∷◌, ◌++◌}
use mathlib.Core.Path.{◌≡◌, refl, ◌∙◌}
use native.Mathlib.Nat.{zero-add}
use native.Mathlib.Numerals.{add-one}
use native.Mathlib.Omega.{arith}
use Rattle.std.specs.Prelude.{Some}
use lib.Dec.{ltb}
use lib.ListN.{length, take, drop, get_or, set, length-drop}
use lib.Seq.{take-set-lt, take-suc-set, take-take, set_split, get_or-drop}
use borrow.Author.Tests.{ltb-true, ltb-false}
use Rattle.std.specs.List.{copy_within}
use Rattle.std.proofs.lemmas.List.{drop-take, length-take-le}
use Rattle.std.proofs.lemmas.List.Edits.{take-paste}
use Rattle.message.specs.Writing.{placed}
use Rattle.line.specs.Receiving.{held_max}
use Rattle.line.proofs.Moving.{length_part}
use Rattle.command.specs.Payload.{max_data}
use Rattle.ledger.specs.Parts.{live_max}
use Rattle.endpoint.specs.Endpoint.{room_at, room_place, store_length, request_of, requests_from, rows_of, live_of}
use Rattle.endpoint.specs.Malformed.{too_long}
use Rattle.endpoint.specs.Places.{at, after, Fits}
use Rattle.endpoint.specs.declared.Request.{Request}
use Rattle.endpoint.specs.declared.Requests.{Requests}
use Rattle.endpoint.specs.declared.State.{State}
use Rattle.endpoint.proofs.Rows.{blank_row, length_rows, rows_at}
use Rattle.endpoint.proofs.Listed.{length_requests, requests_at}
use Rattle.live_changes.specs.Changing.{changed, Becomes}
use Rattle.live_changes.specs.declared.Change.TheVariants.{Turn}
use Rattle.live_changes.proofs.Stores.{OthersStay, length_filled, filled, held_stay, others_stay}
use Rattle.live_changes.proofs.Listing.{
  short_set,
  short_take,
  short_drop,
  short_append,
  short_one,
  short_at,
  RoomsMove,
  requests_take,
  requests_drop,
  requests_append,
  requests_move,
  requests_stay,
  requests_set,
}

-- a row of the same request in another state
abbrev pub in_state : State → Request → Request
in_state s q = record { id = q.id; fields = q.fields; wanted = q.wanted; len = q.len; state = s }

-- rows of which one is another
abbrev pub with_row : Requests → (row : ℕ) → Request → Requests
with_row live i q = record { rows = set live.rows i q; count = live.count }

-- how long the data of a row are
abbrev pub len_of : List Request → ℕ → ℕ
len_of rows i = (get_or rows i blank_row).len

-- the store while the data of the rows behind one move up: the rooms from that row's to the one before i hold those of the next row,
-- and the rooms ahead of them and from i on hold what they held
pub record RoomsMoved (rows : List Request) (row : ℕ) (s x : List ℕ) (i : ℕ) : Type 0 where
  pub long : length x ≡ store_length
  pub holds : take held_max x ≡ take held_max s
  pub ahead : (k m : ℕ) → k < row → m ≤ max_data → room_at x k m ≡ room_at s k m
  pub there : (k : ℕ) → row ≤ k → k < i → room_at x k (len_of rows (suc k)) ≡ room_at s (suc k) (len_of rows (suc k))
  pub behind : (k m : ℕ) → i ≤ k → k < live_max → m ≤ max_data → room_at x k m ≡ room_at s k m

module _ (live : Requests) (full : length live.rows ≡ live_max) (fits : Fits live) where
  count : length (rows_of live) ≡ live.count
  count = length_rows live full fits.few

  pub length_live : (s : List ℕ) → length (live_of live s) ≡ live.count
  length_live s = length_requests 0 (rows_of live) s ∙ count

  -- the live request in a row, and that its data are not too long
  pub live_at : (s : List ℕ) (i : ℕ) → i < live.count
      → at i (live_of live s) ≡ request_of (get_or live.rows i blank_row) (room_at s i (get_or live.rows i blank_row).len)
  live_at s i less =
      rw (requests_at 0 i (rows_of live) s (omega (arith, count)), zero-add i, rows_at live full fits.few i less)

  pub len_at : (i : ℕ) → i < live.count → (get_or live.rows i blank_row).len ≤ max_data
  len_at i less = rw (rows_at live full fits.few i less) at (short_at (rows_of live) i fits.short)

  -- another request in a row, whose room alone changes
  replaced : (row : ℕ) (q : Request) (s x : List ℕ) → row < live.count → q.len ≤ max_data → OthersStay row s x
      → take held_max x ≡ take held_max s
      → Becomes (with_row live row q) (set (live_of live s) row (request_of q (room_at x row q.len))) s x
  replaced row q s x less short stay held =
      let rows : rows_of (with_row live row q) ≡ set (rows_of live) row q = take-set-lt live.count live.rows row q less in
      let zeroth : 0 + row ≡ row = zero-add row in
      let elsewhere : OthersStay (0 + row) s x = rw zeroth stay in
      record {
        lists = rw rows (rw zeroth at (requests_set 0 row (rows_of live) q s x elsewhere fits.short (omega (arith, count))));
        fits = record { few = fits.few; short = rw rows (short_set (rows_of live) row q fits.short short) };
        holds = held;
      }

  -- the request of a row in another state
  pub turned : (row : ℕ) (state : State) (s : List ℕ) → row < live.count
      → Becomes (with_row live row (in_state state (get_or live.rows row blank_row))) (changed (Some (Turn row state)) (live_of live s)) s s
  turned row state s less =
      let q = in_state state (get_or live.rows row blank_row) in
      let split = set_split (live_of live s) row (request_of q (room_at s row q.len)) (omega (arith, length_live s)) in
      rw (live_at s row less, ← split) (replaced row q s s less (len_at row less) (λ k n a b c. refl) refl)

  -- a request behind the others, with its data
  module _ (next : Requests) (q : Request) (room : live.count < live_max) (short : q.len ≤ max_data)
      (stored : next.rows ≡ set live.rows live.count q) (one_more : next.count ≡ suc live.count) where
    rows_joined : rows_of next ≡ rows_of live ++ (q ∷ [])
    rows_joined = rw (one_more, stored) (take-suc-set live.rows live.count q (omega arith))

    pub fits_joined : Fits next
    fits_joined = record {
      few = omega arith;
      short = rw rows_joined (short_append (rows_of live) (q ∷ []) fits.short (short_one q short));
    }

    pub joined : (m s x : List ℕ) → q.len ≡ length m → length s ≡ store_length → x ≡ placed (room_place live.count) m s
        → Becomes next (live_of live s ++ (request_of q m ∷ [])) s x
    unfolding requests_from
    joined m s x size long put =
        let n = live.count in
        let last : 0 + length (rows_of live) ≡ n = omega (arith, count) in
        let stay : OthersStay n s x = rw put (others_stay n m s long room (omega arith)) in
        let others : live_of live x ≡ live_of live s =
        requests_stay 0 (rows_of live) s x (λ j n a b c. stay j n (omega (arith, count)) (omega (arith, count)) c) fits.short in
        let there : room_at x n q.len ≡ m = rw (put, size) (filled n m s long room (omega arith)) in
        record {
          lists = rw (rows_joined, requests_append 0 (rows_of live) (q ∷ []) x, others, last, there);
          fits = fits_joined;
          holds = rw put (held_stay n m s long room (omega arith));
        }

  -- one room more, into which the data of the next row move
  module _ (row : ℕ) (s x y : List ℕ) (i : ℕ) (so_far : RoomsMoved live.rows row s x i) (from : row ≤ i) (more : suc i < live.count)
      (put : y ≡ placed (room_place i) (room_at x (suc i) (len_of live.rows (suc i))) x) where
    next_data : List ℕ
    next_data = room_at x (suc i) (len_of live.rows (suc i))

    in_rows : suc i < live_max
    in_rows = let few = fits.few in omega arith

    size : length next_data ≡ len_of live.rows (suc i)
    unfolding next_data
    size =
        let long = so_far.long in
        length_part (room_place (suc i)) (len_of live.rows (suc i)) x (omega (arith, in_rows, len_at (suc i) more))

    short : length next_data ≤ max_data
    short = omega (arith, size, len_at (suc i) more)

    others_kept : OthersStay i x y
    unfolding next_data
    others_kept = rw put (others_stay i next_data x so_far.long (omega (arith, in_rows)) short)

    filled_now : room_at y i (len_of live.rows (suc i)) ≡ room_at s (suc i) (len_of live.rows (suc i))
    unfolding next_data
    filled_now =
        rw put (rw size at (filled i next_data x so_far.long (omega (arith, in_rows)) short))
        ∙ so_far.behind (suc i) (len_of live.rows (suc i)) (omega arith) in_rows (len_at (suc i) more)

    each_room : (k : ℕ) (before : Bool) → ltb k i ≡ before → row ≤ k → k < suc i
        → room_at y k (len_of live.rows (suc k)) ≡ room_at s (suc k) (len_of live.rows (suc k))
    each_room k true t low high =
        let less : k < i = ltb-true k i t in
        others_kept k (len_of live.rows (suc k)) (omega (arith, in_rows)) (omega arith) (len_at (suc k) (omega arith))
        ∙ so_far.there k low less
    each_room k false t low high =
        let over : i ≤ k = ltb-false k i t in
        let same : k ≡ i = omega arith in
        rw same filled_now

    one_more : RoomsMoved live.rows row s y (suc i)
    unfolding next_data
    one_more = record {
      long = rw put (length_filled i next_data x so_far.long (omega (arith, in_rows)) short);
      holds = rw put (held_stay i next_data x so_far.long (omega (arith, in_rows)) short) ∙ so_far.holds;
      ahead = λ k m low few. others_kept k m (omega (arith, in_rows)) (omega arith) few ∙ so_far.ahead k m low few;
      there = λ k low high. each_room k (ltb k i) refl low high;
      behind = λ k m over in_use few. others_kept k m in_use (omega arith) few ∙ so_far.behind k m (omega arith) in_use few;
    }

  -- one turn of the loop, in its terms
  pub room_moved : (row : ℕ) (s x y : List ℕ) (i : ℕ) → RoomsMoved live.rows row s x i → row ≤ i → suc i < live.count
      → y ≡ placed (room_place i) (room_at x (suc i) (len_of live.rows (i + 1))) x → RoomsMoved live.rows row s y (i + 1)
  room_moved row s x y i so_far from more put = rw (add-one i) (one_more row s x y i so_far from more (rw (add-one i) at put))

  -- those after a row move up, each with its data
  module _ (next : Requests) (row : ℕ) (less : row < live.count) (stored : next.rows ≡ copy_within live.rows (suc row) live.count row)
      (one_less : suc next.count ≡ live.count) where
    before : List Request
    before = take row (rows_of live)

    behind : List Request
    behind = drop (suc row) (rows_of live)

    rows_left : rows_of next ≡ before ++ behind
    unfolding before behind
    rows_left =
        let n = live.count in
        let few = fits.few in
        let whole : suc row + (n - suc row) ≡ n = omega arith in
        let late : drop (suc row) (rows_of live) ≡ take (n - suc row) (drop (suc row) live.rows) =
        rw whole at (drop-take (suc row) (n - suc row) live.rows) in
        let sum : next.count ≡ row + (n - suc row) = omega arith in
        rw (sum, stored, late, take-take row n live.rows (omega arith))
        (take-paste live.rows row (drop (suc row) live.rows) (n - suc row) (omega arith) (simp length-drop (omega arith)))

    short_before : too_long before ≡ false
    unfolding before
    short_before = short_take row (rows_of live) fits.short

    short_behind : too_long behind ≡ false
    unfolding behind
    short_behind = short_drop (suc row) (rows_of live) fits.short

    pub fits_left : Fits next
    fits_left =
        let few = fits.few in
        record { few = omega arith; short = rw rows_left (short_append before behind short_before short_behind) }

    pub left : (s x : List ℕ) → RoomsMoved live.rows row s x next.count
        → Becomes next (take row (live_of live s) ++ after row (live_of live s)) s x
    unfolding before behind
    left s x moved =
        let many : length before ≡ row = length-take-le row (rows_of live) (omega (arith, count)) in
        let others : length behind ≡ live.count - suc row = simp length-drop (omega (arith, count)) in
        let room : RoomsMove behind row (suc row) s x =
        λ p few.
        let own : get_or behind p blank_row ≡ get_or live.rows (suc row + p) blank_row =
        get_or-drop (suc row) (rows_of live) p blank_row ∙ rows_at live full fits.few (suc row + p) (omega (arith, others)) in
        let sum : suc (row + p) ≡ suc row + p = omega arith in
        rw own (rw sum at (moved.there (row + p) (omega arith) (omega (arith, others)))) in
        let first : requests_from 0 before x ≡ take row (live_of live s) =
        requests_stay 0 before s x (λ j m a b c. moved.ahead j m (omega (arith, many)) c) short_before
        ∙ requests_take row 0 (rows_of live) s in
        let rest : requests_from row behind x ≡ after row (live_of live s) =
        requests_move row (suc row) behind s x room
        ∙ rw (zero-add (suc row)) at (requests_drop (suc row) 0 (rows_of live) s) in
        record {
          lists = rw (rows_left, requests_append 0 before behind x, first, many, zero-add row, rest);
          fits = fits_left;
          holds = moved.holds;
        }
