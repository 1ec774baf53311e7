-- Laws of dropping: its cases, and where it stops.
use Prim.Native.Nat.{ℕ, zero, suc, ◌≤◌, ◌<◌}
use mathlib.Core.Bool.{Bool, true, false, cond as if}
use mathlib.Core.List.{List, [], ◌∷◌}
use mathlib.Core.Path.{◌≡◌, refl, ap}
use native.Mathlib.Omega.{arith}
use lib.Dec.{eqb}
use lib.ListN.{length, take, drop}
use borrow.Author.Tests.{eqb-true}
use Rattle.message.specs.Bytes.{syn1, syn2, syn}
use Rattle.message.specs.Items.{stands, dropped}
use Rattle.message.proofs.Headers.{both}

-- where SYN stands in front, none is dropped
pub dropped_here : (xs : List ℕ) → stands xs ≡ true → dropped xs ≡ 0
unfolding dropped
dropped_here [] h = refl
dropped_here (x ∷ xs) h = rw h

-- so many are dropped as stand before the first place at which SYN stands
pub dropped_before : (xs : List ℕ) (i : ℕ) → i ≤ length xs → (i < length xs → stands (drop i xs) ≡ true)
    → ((k : ℕ) → k < i → stands (drop k xs) ≡ false) → i ≡ dropped xs
unfolding dropped
dropped_before [] i within here before = omega arith
dropped_before (x ∷ xs) zero within here before = rw (here (omega arith))
dropped_before (x ∷ xs) (suc i) within here before =
    let next = dropped_before xs i (omega arith) (λ less. here (omega arith)) (λ k less. before (suc k) (omega arith)) in
    rw (before 0 (omega arith)) (ap suc next)

-- no more is dropped than there is
one_more : (t : Bool) {d n : ℕ} → d ≤ n → if t 0 (suc d) ≤ suc n
one_more true h = omega arith
one_more false h = omega arith

pub dropped_within : (xs : List ℕ) → dropped xs ≤ length xs
unfolding dropped
dropped_within [] = omega arith
dropped_within (x ∷ xs) = one_more (stands (x ∷ xs)) (dropped_within xs)

-- where it stops before the end, SYN stands or may stand
stops_at : (b : Bool) (x : ℕ) (xs : List ℕ) (d : ℕ) → stands (x ∷ xs) ≡ b → (0 < length (drop d xs) → stands (drop d xs) ≡ true)
    → 0 < length (drop (if b 0 (suc d)) (x ∷ xs)) → stands (drop (if b 0 (suc d)) (x ∷ xs)) ≡ true
stops_at true x xs d here next some = here
stops_at false x xs d here next some = next some

pub stands_left : (xs : List ℕ) → 0 < length (drop (dropped xs) xs) → stands (drop (dropped xs) xs) ≡ true
unfolding dropped
stands_left [] some = absurd (omega arith)
stands_left (x ∷ xs) some = stops_at (stands (x ∷ xs)) x xs (dropped xs) refl (stands_left xs) some

-- two bytes of which SYN stands in front are SYN
pub syn_left : (xs : List ℕ) → 2 ≤ length xs → stands xs ≡ true → take 2 xs ≡ syn
unfolding stands
syn_left [] two here = absurd (omega arith)
syn_left (x ∷ []) two here = absurd (omega arith)
syn_left (x ∷ y ∷ xs) two here =
    let h = both (eqb x syn1) (eqb y syn2) here in rw (eqb-true x syn1 h.0, eqb-true y syn2 h.1)
