-- A piece handed in, its untaken rest again, until *more*: each item removes bytes, so it comes to an end, and cuts change nothing.
use Prim.Native.Nat.{ℕ, zero, suc, ◌+◌, ◌≤◌, ◌<◌}
use mathlib.Core.List.{List, [], ◌∷◌, ◌++◌, append-nil}
use mathlib.Core.Path.{◌≡◌, refl, sym, ap, ◌∙◌}
use native.Mathlib.Omega.{arith}
use lib.ListN.{length, take, drop, length-append, length-drop}
use lib.Seq.{drop-append-le, drop-append-add, length-take-le}
use Rattle.message.specs.Items.{Item, undecided, decided, dropped, rules, scan}
use Rattle.message.proofs.Found.{scan_within}
use Rattle.line.specs.Cuts.{found, before, on_answer, handed_in, handed, handed_each, joined}
use Rattle.line.specs.Receiving.{smallest, taken, receive}
use Rattle.line.proofs.Got.{Got, got_more, got_item, got}
use Rattle.line.proofs.Later.{item_stays, more_then}

-- how many bytes there are to go through
abbrev pub size : List ℕ → List ℕ → ℕ
size held piece = length held + length piece

-- fewer are left after an item
pub item_shrinks : (held piece : List ℕ) {i : Item} {d r : ℕ} (k : ℕ) → k ≤ length piece → scan (held ++ take k piece)
    ≡ decided i d r
    → size (drop (d + r) (held ++ take k piece)) (drop k piece) < size held piece
item_shrinks held piece {i} {d} {r} k within h =
    let w = scan_within (held ++ take k piece) h in
    let all : length (held ++ take k piece) ≡ length held + k =
    length-append held (take k piece) ∙ ap (λ (n : ℕ). length held + n) (length-take-le k piece within) in
    rw (length-drop (d + r) (held ++ take k piece), length-drop k piece, all) (omega (arith, w, all))

-- more times than bytes are as good as any
module _ (n m : ℕ) (again : (held piece : List ℕ) → size held piece < n → size held piece < m
    → handed_in n held piece ≡ handed_in m held piece) where
  same_by : (held piece : List ℕ) → Got held piece → size held piece < suc n → size held piece < suc m
      → handed_in (suc n) held piece ≡ handed_in (suc m) held piece
  unfolding handed_in
  same_by held piece (got_more h got-it) l k = rw (got-it, h)
  same_by held piece (got_item {i} {d} {r} t within h none got-it) l k =
      let few = item_shrinks held piece t within h in
      rw (got-it, h)
      (ap (before (found i _ ∷ [])) (again (drop (d + r) (held ++ take t piece)) (drop t piece) (omega arith) (omega arith)))

same : (n m : ℕ) (held piece : List ℕ) → size held piece < n → size held piece < m → handed_in n held piece ≡ handed_in m held piece
same zero m held piece l k = absurd (omega arith)
same (suc n) zero held piece l k = absurd (omega arith)
same (suc n) (suc m) held piece l k = same_by n m (same n m) held piece (got held piece) l k

-- so handing in is: receive, and where that is an item, what comes after it
module _ (held piece : List ℕ) where
  step_by : Got held piece
      → handed held piece
      ≡ on_answer (receive held piece).answer (receive held piece).held (receive held piece).payload
      (handed (receive held piece).held (drop (receive held piece).taken piece))
  unfolding handed handed_in
  step_by (got_more h got-it) = rw (got-it, h)
  step_by (got_item {i} {d} {r} t within h none got-it) =
      let left = drop (d + r) (held ++ take t piece) in
      let few = item_shrinks held piece t within h in
      rw (got-it, h)
      (ap (before (found i _ ∷ [])) (same (size held piece) (suc (size left (drop t piece))) left (drop t piece) few (omega arith)))

  pub handed_step : handed held piece
      ≡ on_answer (receive held piece).answer (receive held piece).held (receive held piece).payload
      (handed (receive held piece).held (drop (receive held piece).taken piece))
  handed_step = step_by (got held piece)

-- a piece in two parts
module _ (a b : List ℕ) where
  behind_more : (held : List ℕ) {e : ℕ} → scan (held ++ a) ≡ undecided e → handed held (a ++ b) ≡ handed (drop e (held ++ a)) b
  behind_more held {e} h =
      handed_step held (a ++ b)
      ∙ rw (more_then held a b h, drop-append-add a b (receive (drop e (held ++ a)) b).taken)
      (sym (handed_step (drop e (held ++ a)) b))

  module _ (n : ℕ) (again : (held a : List ℕ) → size held a < n
      → handed held (a ++ b) ≡ before (handed held a).items (handed (handed held a).held b)) where
    joined_by : (held : List ℕ) → Got held a → size held a < suc n
        → handed held (a ++ b) ≡ before (handed held a).items (handed (handed held a).held b)
    joined_by held (got_more h got-it) few = rw (handed_step held a, got-it, h) (behind_more held h)
    joined_by held (got_item {i} {d} {r} t within h none got-it) few =
        let shrinks = item_shrinks held a t within h in
        let rest = again (drop (d + r) (held ++ take t a)) (drop t a) (omega arith) in
        rw (handed_step held a, got-it, h)
        (handed_step held (a ++ b)
        ∙ rw (item_stays held a b t within h none, h, drop-append-le t a b within) (ap (before (found i _ ∷ [])) rest))

joined_within : (b : List ℕ) (n : ℕ) (held a : List ℕ) → size held a < n
    → handed held (a ++ b) ≡ before (handed held a).items (handed (handed held a).held b)
joined_within b zero held a few = absurd (omega arith)
joined_within b (suc n) held a few = joined_by a b n (joined_within b n) held (got held a) few

pub handed_joined : (held a b : List ℕ) → handed held (a ++ b) ≡ before (handed held a).items (handed (handed held a).held b)
handed_joined held a b = joined_within b (suc (size held a)) held a (omega arith)

-- pieces, at least one
pub each_joined : (held piece : List ℕ) (pieces : List (List ℕ)) → handed_each held (piece ∷ pieces)
    ≡ handed held (joined (piece ∷ pieces))
unfolding handed_each joined
each_joined held piece [] = rw (append-nil piece, append-nil (handed held piece).items)
each_joined held piece (next ∷ pieces) =
    ap (before (handed held piece).items) (each_joined (handed held piece).held next pieces)
    ∙ sym (handed_joined held piece (joined (next ∷ pieces)))

-- pieces, any number of them, where nothing is held before
pub cuts : (pieces : List (List ℕ)) → handed_each [] pieces ≡ handed [] (joined pieces)
unfolding handed_each joined handed handed_in receive taken smallest scan dropped rules
cuts [] = refl
cuts (piece ∷ pieces) = each_joined [] piece pieces
