-- The front of a store: what a loan of it leaves, and that the live requests stay the same where what stands behind it does.
use Prim.Native.Nat.{ℕ, suc, ◌*◌, ◌≤◌}
use mathlib.Core.List.{List, [], ◌∷◌, ◌++◌}
use mathlib.Core.Path.{◌≡◌, refl, sym, ap, ◌∙◌}
use native.Mathlib.Omega.{arith}
use lib.ListN.{length, take, drop}
use lib.Seq.{take-take, drop-drop, take-append-le, take_at, drop_at, length-take-le}
use Rattle.message.specs.Writing.{placed}
use Rattle.line.specs.Receiving.{held_max}
use Rattle.line.specs.Promises.{Decides}
use Rattle.line.specs.declared.Decision.{Decision}
use Rattle.command.specs.Payload.{max_data}
use Rattle.endpoint.specs.Endpoint.{store_length, room_at, requests_from, rows_of, live_of}
use Rattle.endpoint.specs.declared.Request.{Request}
use Rattle.endpoint.specs.declared.Requests.{Requests}
use Rattle.host_answers.specs.Code.{DecidesIn}

-- no bytes placed
pub placed_none : (l : List ℕ) → placed 0 [] l ≡ l
unfolding placed
placed_none l = refl

-- the front of a store is as long as it may be, and its first bytes are the store's
module _ (s : List ℕ) (long : length s ≡ store_length) where
  pub length_front : length (take held_max s) ≡ held_max
  length_front = length-take-le held_max s (omega arith)

pub first_of_front : (n : ℕ) (s : List ℕ) → n ≤ held_max → take n (take held_max s) ≡ take n s
first_of_front n s few = take-take n held_max s few

-- another front of the same length
module _ (x s : List ℕ) (size : length x ≡ held_max) where
  front_lent : take held_max (x ++ drop held_max s) ≡ x
  front_lent = take_at x (drop held_max s) held_max size

  pub rest_lent : drop held_max (x ++ drop held_max s) ≡ drop held_max s
  rest_lent = drop_at x (drop held_max s) held_max size

  pub first_lent : (n : ℕ) → n ≤ held_max → take n (x ++ drop held_max s) ≡ take n x
  first_lent n few = take-append-le n x (drop held_max s) (omega arith)

  -- the line's decision on the front
  pub decided_in : (d : Decision) (held : ℕ) (new : List ℕ) → held ≤ held_max → Decides d (take held (take held_max s)) new x
      → DecidesIn d held new s (x ++ drop held_max s)
  decided_in d held new few decides = record {
    decides = rw (front_lent, ← first_of_front held s few) decides;
    rooms = rest_lent;
  }

-- stores that agree behind the front have the same rooms, and so the same live requests
module _ (s x : List ℕ) (same : drop held_max x ≡ drop held_max s) where
  same_room : (i n : ℕ) → room_at x i n ≡ room_at s i n
  same_room i n =
      ap (take n) (sym (drop-drop (i * max_data) held_max x) ∙ ap (drop (i * max_data)) same ∙ drop-drop (i * max_data) held_max s)

  same_requests : (i : ℕ) (rows : List Request) → requests_from i rows x ≡ requests_from i rows s
  unfolding requests_from
  same_requests i [] = refl
  same_requests i (q ∷ qs) = rw (same_room i q.len, same_requests (suc i) qs)

  pub same_live : (live : Requests) → live_of live x ≡ live_of live s
  same_live live = same_requests 0 (rows_of live)

-- where the front stays, so do the held bytes
pub held_same : (n : ℕ) (s x : List ℕ) → n ≤ held_max → take held_max x ≡ take held_max s → take n x ≡ take n s
held_same n s x few same = sym (first_of_front n x few) ∙ ap (take n) same ∙ first_of_front n s few
