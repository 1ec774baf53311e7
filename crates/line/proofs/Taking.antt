-- What a call gives, from what the six rules say of the bytes it looks at: the cases that code and laws cite.
use Prim.Native.Nat.{ℕ, zero, suc, ◌+◌, ◌-◌, ◌≤◌, ◌<◌}
use mathlib.Core.Bool.{true, false, true≢false}
use mathlib.Core.List.{List, [], ◌∷◌, ◌++◌, append_assoc, append-nil}
use mathlib.Core.Path.{◌≡◌, refl, sym, ap, ◌∙◌}
use native.Mathlib.Nat.{zero-add}
use native.Mathlib.Omega.{arith}
use lib.ListN.{length, take, drop, length-append, length-drop, take-append-drop}
use lib.Seq.{take-add, take-length, length-take-le}
use Rattle.message.specs.Bytes.{header_length}
use Rattle.message.specs.Items.{Item, Scan, undecided, decided, stands, dropped, scan}
use Rattle.message.proofs.More.{scan_more}
use Rattle.message.proofs.Rules.{rule_1}
use Rattle.line.specs.Receiving.{smallest, decides, taken, Received, received_from, receive}
use Rattle.line.proofs.Joined.{decides_joined, received_joined, decides_behind, received_behind}
use Rattle.line.proofs.Reach.{reach, reach_within, scan_less, scan_fewer}
use Rattle.line.proofs.Smallest.{smallest_at, smallest_same, told}

-- where more bytes decide nothing, fewer do not
less : (xs ys : List ℕ) (s : Scan) → scan xs ≡ s → decides (scan (xs ++ ys)) ≡ false → decides s ≡ false
less xs ys (undecided d) h none = refl
less xs ys (decided i d r) h none = absurd (true≢false (ap decides (sym (scan_more xs ys h)) ∙ none))

pub decides_less : (xs ys : List ℕ) → decides (scan (xs ++ ys)) ≡ false → decides (scan xs) ≡ false
decides_less xs ys none = less xs ys (scan xs) refl none

-- dropped bytes play no part
taken_dropped : (held new : List ℕ) → taken held new ≡ taken (drop (dropped held) held) new
unfolding taken
taken_dropped held new = smallest_same _ _ 0 (length new) (λ k. decides_joined held (take k new))

pub receive_dropped : (held new : List ℕ) → receive held new ≡ receive (drop (dropped held) held) new
unfolding receive
receive_dropped held new =
    rw (taken_dropped held new)
    (received_joined held (take (taken (drop (dropped held) held) new) new) (taken (drop (dropped held) held) new))

-- a call takes k bytes where fewer decide nothing, and those do or are all
module _ (held new : List ℕ) (k : ℕ) (within : k ≤ length new) (here : k < length new → decides (scan (held ++ take k new)) ≡ true)
    (none : (j : ℕ) → j < k → decides (scan (held ++ take j new)) ≡ false) where
  taken_at : taken held new ≡ k
  unfolding taken
  taken_at =
      smallest_at (λ j. decides (scan (held ++ take j new))) 0 (length new) k within (λ h. rw (zero-add k) (here h))
      (λ j h. rw (zero-add j) (none j h))
      ∙ zero-add k

  pub receive_at : receive held new ≡ received_from (held ++ take k new) k
  unfolding receive
  receive_at = rw taken_at

-- a part of the new bytes, with those after it
parts : (held new : List ℕ) (j k : ℕ) → j ≤ k → (held ++ take j new) ++ take (k - j) (drop j new) ≡ held ++ take k new
parts held new j k le =
    let sum : j + (k - j) ≡ k = omega arith in
    append_assoc held (take j new) (take (k - j) (drop j new))
    ∙ ap (λ (l : List ℕ). held ++ l) (sym (take-add j (k - j) new) ∙ rw sum)

-- *more*: all bytes decide nothing
pub at_more : (held new : List ℕ) → decides (scan (held ++ new)) ≡ false → receive held new
    ≡ received_from (held ++ new) (length new)
at_more held new none =
    rw (take-length new) at
    (receive_at held new (length new) (omega arith) (λ h. absurd (omega arith))
    (λ j h. decides_less (held ++ take j new) (drop j new)
    (rw (append_assoc held (take j new) (drop j new), take-append-drop j new) none)))

-- all bytes are taken where all but the last decide nothing: one test in place of one for each number
pub at_last : (held new : List ℕ) → decides (scan (held ++ take (length new - 1) new)) ≡ false
    → receive held new ≡ received_from (held ++ new) (length new)
at_last held new none =
    rw (take-length new) at
    (receive_at held new (length new) (omega arith) (λ h. absurd (omega arith))
    (λ j h. decides_less (held ++ take j new) (take (length new - 1 - j) (drop j new))
    (rw (parts held new j (length new - 1) (omega arith)) none)))

-- the held bytes decide an item alone
pub at_held : (held new : List ℕ) → decides (scan held) ≡ true → receive held new ≡ received_from held 0
at_held held new here =
    rw (append-nil held) at
    (receive_at held new 0 (omega arith) (λ h. rw (append-nil held) here) (λ j h. absurd (omega arith)))

-- an item that the last of k new bytes decides
pub at_item : (held new : List ℕ) (k : ℕ) {i : Item} {d r : ℕ} → k ≤ length new → scan (held ++ take k new) ≡ decided i d r
    → length held + k ≡ d + reach i (drop d (held ++ take k new)) → receive held new ≡ received_from (held ++ take k new) k
at_item held new k {i} {d} {r} within h last =
    receive_at held new k within (λ more. ap decides h)
    (λ j few. scan_fewer (held ++ take j new) (take (k - j) (drop j new)) {i = i} {d = d} {r = r}
    (rw (parts held new j k (omega arith)) h)
    (rw (parts held new j k (omega arith), length-append held (take j new), length-take-le j new (omega arith)) (omega arith)))

-- an item of new bytes alone: those that decide it
pub at_new : (new : List ℕ) (k : ℕ) {i : Item} {d r : ℕ} → scan new ≡ decided i d r → k ≡ d + reach i (drop d new)
    → (receive [] new ≡ received_from (take k new) k) × (scan (take k new) ≡ decided i d r) × (k ≤ length new)
at_new new k {i} {d} {r} h last =
    let w = reach_within new h in
    let cut : take k new ++ drop k new ≡ new = take-append-drop k new in
    let size : length (take k new) ≡ k = length-take-le k new (omega arith) in
    let there : scan (take k new) ≡ decided i d r =
    scan_less (take k new) (drop k new) (rw cut h) (rw (cut, size) (omega arith)) in (
      receive_at [] new k (omega arith) (λ more. ap decides there)
          (λ j few. scan_fewer (take j new) (drop j new) {i = i} {d = d} {r = r} (rw (take-append-drop j new) h)
          (rw (take-append-drop j new, length-take-le j new (omega arith)) (omega arith))),
      there,
      omega arith,
    )

pub taken_new : (new : List ℕ) {i : Item} {d r : ℕ} → scan new ≡ decided i d r → taken [] new ≡ d + reach i (drop d new)
unfolding receive
taken_new new h = ap (λ (r : Received). r.taken) (at_new new _ h refl).0

-- fewer bytes than a header's decide nothing
pub decides_short : (xs : List ℕ) → length xs < header_length → decides (scan xs) ≡ false
unfolding scan
decides_short xs short =
    ap decides (rule_1 (dropped xs) (drop (dropped xs) xs) (rw (length-drop (dropped xs) xs) (omega arith)))

-- a byte that is no SYN with the next one plays no part
module _ (x y : ℕ) (ys : List ℕ) (no : stands (x ∷ y ∷ []) ≡ false) where
  decides_lone : (k : ℕ) → decides (scan (x ∷ take k (y ∷ ys))) ≡ decides (scan (take k (y ∷ ys)))
  unfolding stands
  decides_lone zero = decides_short (x ∷ []) (omega arith) ∙ sym (decides_short [] (omega arith))
  decides_lone (suc k) = decides_behind x (y ∷ take k ys) no

  some : taken [] (y ∷ ys) ≡ 0 → ⊥
  unfolding taken smallest
  some none =
      let t = told (λ k. decides (scan (take k (y ∷ ys)))) 1 (length ys) in
      absurd (omega (arith, t.at, rw (decides_short [] (omega arith)) at none))

  received_lone : (t : ℕ) → (t ≡ 0 → ⊥) → received_from (x ∷ take t (y ∷ ys)) t ≡ received_from (take t (y ∷ ys)) t
  unfolding stands
  received_lone zero h = absurd (h refl)
  received_lone (suc k) h = received_behind x (y ∷ take k ys) (suc k) no

  pub receive_lone : receive (x ∷ []) (y ∷ ys) ≡ receive [] (y ∷ ys)
  unfolding receive taken
  receive_lone =
      rw (smallest_same (λ k. decides (scan (x ∷ take k (y ∷ ys)))) (λ k. decides (scan (take k (y ∷ ys)))) 0
      (length (y ∷ ys)) decides_lone)
      (received_lone (taken [] (y ∷ ys)) some)
