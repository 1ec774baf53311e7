-- What is held is within the limit, and every byte that is taken is dropped, removed or held.
use Prim.Native.Nat.{ℕ, zero, suc, ◌+◌, ◌≤◌, ◌<◌}
use mathlib.Core.Bool.{Bool, true, false, true≢false}
use mathlib.Core.List.{List, ◌++◌, append_assoc, append-nil}
use mathlib.Core.Path.{◌≡◌, refl, sym, ap, ◌∙◌}
use native.Mathlib.Omega.{arith}
use lib.Dec.{leb}
use lib.ListN.{length, take, drop, length-append, length-drop, take-append-drop}
use lib.Seq.{take-add, length-take-le, take-length}
use borrow.Author.Tests.{leb-true, leb-false}
use Rattle.message.specs.Items.{Item, Scan, undecided, decided, scan}
use Rattle.message.proofs.Found.{scan_within}
use Rattle.line.specs.Cuts.{handed_in, handed, gone, gone_in, went_in, went}
use Rattle.line.specs.Receiving.{held_max, decides, taken, left, receive}
use Rattle.line.proofs.Gives.{undecided_left}
use Rattle.line.proofs.Got.{Got, got_more, got_item, got}
use Rattle.line.proofs.Handed.{size, item_shrinks, handed_step}
use Rattle.line.proofs.Reach.{reach, reached, scan_less}

-- the last byte that is taken decides the item
module _ (held new : List ℕ) {i : Item} {d r : ℕ} (k : ℕ) (within : suc k ≤ length new)
    (h : scan (held ++ take (suc k) new) ≡ decided i d r) (none : decides (scan (held ++ take k new)) ≡ false) where
  one_less : (held ++ take k new) ++ take 1 (drop k new) ≡ held ++ take (suc k) new
  one_less =
      let sum : k + 1 ≡ suc k = omega arith in
      append_assoc held (take k new) (take 1 (drop k new))
      ∙ ap (λ (l : List ℕ). held ++ l) (sym (take-add k 1 new) ∙ ap (λ (n : ℕ). take n new) sum)

  size_less : length (held ++ take k new) ≡ length held + k
  size_less = length-append held (take k new) ∙ ap (λ (n : ℕ). length held + n) (length-take-le k new (omega arith))

  last_by : (b : Bool) → leb (d + reach i (drop d (held ++ take (suc k) new))) (length held + k) ≡ b
      → length held + k < d + reach i (drop d (held ++ take (suc k) new))
  last_by false l = leb-false (d + reach i (drop d (held ++ take (suc k) new))) (length held + k) l
  last_by true l =
      let enough = leb-true (d + reach i (drop d (held ++ take (suc k) new))) (length held + k) l in
      let there = scan_less (held ++ take k new) (take 1 (drop k new)) {i = i} {d = d} {r = r} (rw one_less h)
      (rw (one_less, size_less) enough) in
      absurd (true≢false (sym (ap decides there) ∙ none))

  last_needed : length held + k < d + reach i (drop d (held ++ take (suc k) new))
  last_needed = last_by (leb (d + reach i (drop d (held ++ take (suc k) new))) (length held + k)) refl

-- so no more is held than the limit, where no more was
item_bounded : (held new : List ℕ) {i : Item} {d r : ℕ} (k : ℕ) → length held ≤ held_max → k ≤ length new
    → scan (held ++ take k new) ≡ decided i d r → ((j : ℕ) → j < k → decides (scan (held ++ take j new)) ≡ false)
    → length (drop (d + r) (held ++ take k new)) ≤ held_max
item_bounded held new {i} {d} {r} zero few within h none =
    rw (length-drop (d + r) (held ++ take 0 new), length-append held (take 0 new)) (omega arith)
item_bounded held new {i} {d} {r} (suc k) few within h none =
    let b = reached (held ++ take (suc k) new) h in
    let l = last_needed held new {i = i} {d = d} {r = r} k within h (none k (omega arith)) in
    let w = scan_within (held ++ take (suc k) new) h in
    rw (length-drop (d + r) (held ++ take (suc k) new), length-append held (take (suc k) new), length-take-le (suc k) new within)
    (omega (arith, b.longest, l, w))

bounded_by : (held new : List ℕ) → Got held new → length held ≤ held_max → length (receive held new).held ≤ held_max
bounded_by held new (got_more h got-it) few = rw (got-it, h) (undecided_left (held ++ new) h).1
bounded_by held new (got_item k within h none got-it) few = rw (got-it, h) (item_bounded held new k few within h none)

pub receive_bounded : (held new : List ℕ) → length held ≤ held_max → length (receive held new).held ≤ held_max
receive_bounded held new few = bounded_by held new (got held new) few

-- the bytes that a call looks at: those that go, then those held
accounted_by : (s : Scan) (xs : List ℕ) → xs ≡ take (gone s) xs ++ left s xs
accounted_by (undecided d) xs = sym (take-append-drop d xs)
accounted_by (decided i d r) xs = sym (take-append-drop (d + r) xs)

pub receive_accounts : (held new : List ℕ) → held ++ take (receive held new).taken new ≡ gone_in held new ++ (receive held new).held
unfolding receive
receive_accounts held new = accounted_by (scan (held ++ take (taken held new) new)) (held ++ take (taken held new) new)

-- the same until *more*
all_split : (held piece : List ℕ) (t : ℕ) → (held ++ take t piece) ++ drop t piece ≡ held ++ piece
all_split held piece t =
    append_assoc held (take t piece) (drop t piece) ∙ ap (λ (l : List ℕ). held ++ l) (take-append-drop t piece)

module _ (n : ℕ) (again : (held piece : List ℕ) → size held piece < n
    → held ++ piece ≡ went_in n held piece ++ (handed_in n held piece).held) where
  accounts_by : (held piece : List ℕ) → Got held piece → size held piece < suc n
      → held ++ piece ≡ went_in (suc n) held piece ++ (handed_in (suc n) held piece).held
  unfolding went_in handed_in
  accounts_by held piece (got_more {e} h got-it) few =
      rw (got-it, take-length piece, h, append-nil (take e (held ++ piece))) (sym (take-append-drop e (held ++ piece)))
  accounts_by held piece (got_item {i} {d} {r} t within h none got-it) few =
      let looked = held ++ take t piece in
      let shrinks = item_shrinks held piece t within h in
      let rest = again (drop (d + r) looked) (drop t piece) (omega arith) in
      rw (got-it, h)
      (sym (all_split held piece t)
      ∙ ap (λ (l : List ℕ). l ++ drop t piece) (sym (take-append-drop (d + r) looked))
      ∙ append_assoc (take (d + r) looked) (drop (d + r) looked) (drop t piece)
      ∙ ap (λ (l : List ℕ). take (d + r) looked ++ l) rest
      ∙ sym (append_assoc (take (d + r) looked) (went_in n (drop (d + r) looked) (drop t piece)) _))

accounts_within : (n : ℕ) (held piece : List ℕ) → size held piece < n
    → held ++ piece ≡ went_in n held piece ++ (handed_in n held piece).held
accounts_within zero held piece few = absurd (omega arith)
accounts_within (suc n) held piece few = accounts_by n (accounts_within n) held piece (got held piece) few

pub handed_accounts : (held piece : List ℕ) → held ++ piece ≡ went held piece ++ (handed held piece).held
unfolding went handed
handed_accounts held piece = accounts_within (suc (size held piece)) held piece (omega arith)

-- and that is within the limit
bounds_by : (n : ℕ)
    → ((held piece : List ℕ) → size held piece < n → length held ≤ held_max → length (handed held piece).held ≤ held_max)
    → (held piece : List ℕ) → Got held piece → size held piece < suc n → length held ≤ held_max
    → length (handed held piece).held ≤ held_max
bounds_by n next held piece (got_more h got-it) few short =
    rw (handed_step held piece, got-it, h) (undecided_left (held ++ piece) h).1
bounds_by n next held piece (got_item {i} {d} {r} t within h none got-it) few short =
    let shrinks = item_shrinks held piece t within h in
    rw (handed_step held piece, got-it, h)
    (next (drop (d + r) (held ++ take t piece)) (drop t piece) (omega arith) (item_bounded held piece t short within h none))

bounds_within : (n : ℕ) (held piece : List ℕ) → size held piece < n → length held ≤ held_max
    → length (handed held piece).held ≤ held_max
bounds_within zero held piece few short = absurd (omega arith)
bounds_within (suc n) held piece few short = bounds_by n (bounds_within n) held piece (got held piece) few short

pub handed_bounded : (held piece : List ℕ) → length held ≤ held_max → length (handed held piece).held ≤ held_max
handed_bounded held piece short = bounds_within (suc (size held piece)) held piece (omega arith) short
