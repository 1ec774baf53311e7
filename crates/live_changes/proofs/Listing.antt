-- The live requests that rows and a store stand for, when a row and its room change: one is replaced, joins, or is the last to go.
use Prim.Native.Nat.{ℕ, zero, suc, ◌+◌, ◌≤◌, ◌<◌}
use mathlib.Core.Bool.{false}
use mathlib.Core.List.{List, [], ◌∷◌, ◌++◌}
use mathlib.Core.Path.{◌≡◌, refl, ap}
use native.Mathlib.Nat.{add-zero}
use native.Mathlib.Omega.{arith}
use lib.Dec.{ltb}
use lib.ListN.{length, take, drop, get_or, set}
use borrow.Author.Tests.{ltb-false, le-ltb}
use Rattle.command.specs.Payload.{max_data}
use Rattle.ledger.specs.Parts.{live_max}
use Rattle.endpoint.specs.Endpoint.{room_at, request_of, requests_from}
use Rattle.endpoint.specs.Malformed.{too_long}
use Rattle.endpoint.specs.declared.Request.{Request}
use Rattle.std.proofs.lemmas.Bool.{or_parts}
use Rattle.endpoint.proofs.Rows.{blank_row}
use Rattle.live_changes.proofs.Stores.{OthersStay}

-- data that are not too long: those of the first row, and of the others
module _ (q : Request) (qs : List Request) where
  short_first : too_long (q ∷ qs) ≡ false → q.len ≤ max_data
  unfolding too_long
  short_first h = ltb-false max_data q.len (or_parts (ltb max_data q.len) (too_long qs) h).0

  short_others : too_long (q ∷ qs) ≡ false → too_long qs ≡ false
  unfolding too_long
  short_others h = (or_parts (ltb max_data q.len) (too_long qs) h).1

  short_both : q.len ≤ max_data → too_long qs ≡ false → too_long (q ∷ qs) ≡ false
  unfolding too_long
  short_both h t = rw (le-ltb max_data q.len h, t)

pub short_set : (qs : List Request) (i : ℕ) (q : Request) → too_long qs ≡ false → q.len ≤ max_data → too_long (set qs i q) ≡ false
short_set [] i q h s = h
short_set (p ∷ qs) zero q h s = short_both q qs s (short_others p qs h)
short_set (p ∷ qs) (suc i) q h s = short_both p (set qs i q) (short_first p qs h) (short_set qs i q (short_others p qs h) s)

pub short_take : (n : ℕ) (qs : List Request) → too_long qs ≡ false → too_long (take n qs) ≡ false
unfolding too_long
short_take zero qs h = refl
short_take (suc n) [] h = h
short_take (suc n) (q ∷ qs) h = short_both q (take n qs) (short_first q qs h) (short_take n qs (short_others q qs h))

pub short_drop : (n : ℕ) (qs : List Request) → too_long qs ≡ false → too_long (drop n qs) ≡ false
short_drop zero qs h = h
short_drop (suc n) [] h = h
short_drop (suc n) (q ∷ qs) h = short_drop n qs (short_others q qs h)

pub short_append : (qs rs : List Request) → too_long qs ≡ false → too_long rs ≡ false → too_long (qs ++ rs) ≡ false
short_append [] rs h g = g
short_append (q ∷ qs) rs h g = short_both q (qs ++ rs) (short_first q qs h) (short_append qs rs (short_others q qs h) g)

pub short_one : (q : Request) → q.len ≤ max_data → too_long (q ∷ []) ≡ false
unfolding too_long
short_one q h = short_both q [] h refl

pub short_at : (qs : List Request) (i : ℕ) → too_long qs ≡ false → (get_or qs i blank_row).len ≤ max_data
short_at [] i h = omega arith
short_at (q ∷ qs) zero h = short_first q qs h
short_at (q ∷ qs) (suc i) h = short_at qs i (short_others q qs h)

-- the requests of the first rows
pub requests_take : (n k : ℕ) (qs : List Request) (s : List ℕ) → requests_from k (take n qs) s ≡ take n (requests_from k qs s)
unfolding requests_from
requests_take zero k qs s = refl
requests_take (suc n) k [] s = refl
requests_take (suc n) k (q ∷ qs) s = ap (request_of q (room_at s k q.len) ∷◌) (requests_take n (suc k) qs s)

pub requests_drop : (n k : ℕ) (qs : List Request) (s : List ℕ) → requests_from (k + n) (drop n qs) s ≡ drop n (requests_from k qs s)
unfolding requests_from
requests_drop zero k qs s = rw (add-zero k)
requests_drop (suc n) k [] s = refl
requests_drop (suc n) k (q ∷ qs) s =
    let sum : suc k + n ≡ k + suc n = omega arith in
    rw sum at (requests_drop n (suc k) qs s)

-- and of the others
pub requests_append : (k : ℕ) (qs rs : List Request) (s : List ℕ)
    → requests_from k (qs ++ rs) s ≡ requests_from k qs s ++ requests_from (k + length qs) rs s
unfolding requests_from
requests_append k [] rs s = rw (add-zero k)
requests_append k (q ∷ qs) rs s =
    let sum : suc k + length qs ≡ k + suc (length qs) = omega arith in
    ap (request_of q (room_at s k q.len) ∷◌) (rw sum at (requests_append (suc k) qs rs s))

-- the data of rows stand in another store in the rooms from one on as they did in those from another one on
abbrev pub RoomsMove : (qs : List Request) (k j : ℕ) (s x : List ℕ) → Type 0
RoomsMove qs k j s x = (p : ℕ) → p < length qs
    → room_at x (k + p) (get_or qs p blank_row).len ≡ room_at s (j + p) (get_or qs p blank_row).len

pub requests_move : (k j : ℕ) (qs : List Request) (s x : List ℕ) → RoomsMove qs k j s x → requests_from k qs x ≡ requests_from j qs s
unfolding requests_from
requests_move k j [] s x o = refl
requests_move k j (q ∷ qs) s x o =
    let own : room_at x k q.len ≡ room_at s j q.len = rw (add-zero k, add-zero j) at (o 0 (omega arith)) in
    let rest : RoomsMove qs (suc k) (suc j) s x =
    λ p less.
    let to : suc k + p ≡ k + suc p = omega arith in
    let from : suc j + p ≡ j + suc p = omega arith in
    rw (to, from) (o (suc p) (omega arith)) in
    rw (own, requests_move (suc k) (suc j) qs s x rest)

-- rows whose rooms stay
pub requests_stay : (k : ℕ) (qs : List Request) (s x : List ℕ)
    → ((j n : ℕ) → k ≤ j → j < k + length qs → n ≤ max_data → room_at x j n ≡ room_at s j n)
    → too_long qs ≡ false → requests_from k qs x ≡ requests_from k qs s
requests_stay k qs s x o h =
    requests_move k k qs s x (λ p less. o (k + p) (get_or qs p blank_row).len (omega arith) (omega arith) (short_at qs p h))

-- another request in a row, whose room alone changes
pub requests_set : (k i : ℕ) (qs : List Request) (q : Request) (s x : List ℕ) → OthersStay (k + i) s x → too_long qs ≡ false
    → k + length qs ≤ live_max
    → requests_from k (set qs i q) x ≡ set (requests_from k qs s) i (request_of q (room_at x (k + i) q.len))
unfolding requests_from
requests_set k i [] q s x o h few = refl
requests_set k zero (p ∷ qs) q s x o h few =
    let rest = requests_stay (suc k) qs s x (λ j n a b c. o j n (omega arith) (omega arith) c) (short_others p qs h) in
    rw (add-zero k, rest)
requests_set k (suc i) (p ∷ qs) q s x o h few =
    let own : room_at x k p.len ≡ room_at s k p.len = o k p.len (omega arith) (omega arith) (short_first p qs h) in
    let sum : suc k + i ≡ k + suc i = omega arith in
    let stay : OthersStay (suc k + i) s x = rw sum o in
    let rest = rw sum at (requests_set (suc k) i qs q s x stay (short_others p qs h) (omega arith)) in
    rw (own, rest)

-- the same where no room changes
pub requests_set_alone : (k i : ℕ) (qs : List Request) (q : Request) (s : List ℕ)
    → requests_from k (set qs i q) s ≡ set (requests_from k qs s) i (request_of q (room_at s (k + i) q.len))
unfolding requests_from
requests_set_alone k i [] q s = refl
requests_set_alone k zero (p ∷ qs) q s = rw (add-zero k)
requests_set_alone k (suc i) (p ∷ qs) q s =
    let sum : suc k + i ≡ k + suc i = omega arith in
    ap (request_of p (room_at s k p.len) ∷◌) (rw sum at (requests_set_alone (suc k) i qs q s))
