-- A call on bytes a ++ b: an item that is decided within a stays; after *more* on a, b is received as if it came next.
use Prim.Native.Nat.{ℕ, ◌+◌, ◌-◌, ◌≤◌, ◌<◌}
use mathlib.Core.Bool.{Bool, true, false}
use mathlib.Core.List.{List, ◌++◌, append_assoc}
use mathlib.Core.Path.{◌≡◌, refl, sym, ap, ◌∙◌}
use native.Mathlib.Omega.{arith}
use lib.Dec.{ltb}
use lib.ListN.{length, take, drop, length-append, take-append-drop}
use lib.Seq.{take-append-le, take-append-add}
use borrow.Author.Tests.{ltb-true, ltb-false}
use Rattle.message.specs.Items.{Item, undecided, decided, scan}
use Rattle.line.specs.Receiving.{decides, Received, received_from, receive}
use Rattle.line.proofs.Dropped.{left_receives}
use Rattle.line.proofs.Got.{Got, got_more, got_item, got}
use Rattle.line.proofs.Taking.{decides_less, receive_at, at_more}

-- the same with n bytes more taken
abbrev pub after : ℕ → Received → Received
after n r = record { answer = r.answer; payload = r.payload; taken = n + r.taken; held = r.held }

-- an item that bytes of a decide
pub item_stays : (held a b : List ℕ) {i : Item} {d r : ℕ} (k : ℕ) → k ≤ length a → scan (held ++ take k a) ≡ decided i d r
    → ((j : ℕ) → j < k → decides (scan (held ++ take j a)) ≡ false) → receive held (a ++ b) ≡ received_from (held ++ take k a) k
item_stays held a b k within h none =
    let same : (j : ℕ) → j ≤ k → take j (a ++ b) ≡ take j a = λ j le. take-append-le j a b (omega arith) in
    rw (same k (omega arith)) at
    (receive_at held (a ++ b) k (rw (length-append a b) (omega arith)) (λ l. rw (same k (omega arith)) (ap decides h))
    (λ j l. rw (same j (omega arith)) (none j l)))

module _ (held a b : List ℕ) {e : ℕ} (waits : scan (held ++ a) ≡ undecided e) where
  -- within a nothing is decided
  none_first : (j : ℕ) → j ≤ length a → decides (scan (held ++ take j (a ++ b))) ≡ false
  none_first j le =
      rw (take-append-le j a b le)
      (decides_less (held ++ take j a) (drop j a)
      (rw (append_assoc held (take j a) (drop j a), take-append-drop j a) (ap decides waits)))

  -- behind a, the bytes of b follow
  behind : (j : ℕ) → held ++ take (length a + j) (a ++ b) ≡ (held ++ a) ++ take j b
  behind j = ap (λ (l : List ℕ). held ++ l) (take-append-add a b j) ∙ sym (append_assoc held a (take j b))

  none_both : (k j : ℕ) (c : Bool) → ltb j (length a) ≡ c → j < length a + k
      → ((m : ℕ) → m < k → decides (scan ((held ++ a) ++ take m b)) ≡ false) → decides (scan (held ++ take j (a ++ b))) ≡ false
  none_both k j true l few none = none_first j (omega (arith, ltb-true j (length a) l))
  none_both k j false l few none =
      let le : length a ≤ j = ltb-false j (length a) l in
      let sum : length a + (j - length a) ≡ j = omega arith in
      rw (← sum, behind (j - length a)) (none (j - length a) (omega arith))

  joined_by : Got (held ++ a) b → receive held (a ++ b) ≡ after (length a) (receive (held ++ a) b)
  joined_by (got_more h got-it) =
      let same : held ++ (a ++ b) ≡ (held ++ a) ++ b = sym (append_assoc held a b) in
      rw (at_more held (a ++ b) (rw same (ap decides h)), got-it, same, length-append a b)
  joined_by (got_item k within h none got-it) =
      let at-k = receive_at held (a ++ b) (length a + k) (rw (length-append a b) (omega arith))
      (λ l. rw (behind k) (ap decides h)) (λ j few. none_both k j (ltb j (length a)) refl few none) in
      rw (at-k, got-it, behind k)

  pub joined_on : receive held (a ++ b) ≡ after (length a) (receive (held ++ a) b)
  joined_on = joined_by (got (held ++ a) b)

  -- and so behind what is left of a
  pub more_then : receive held (a ++ b) ≡ after (length a) (receive (drop e (held ++ a)) b)
  more_then = joined_on ∙ ap (after (length a)) (left_receives (held ++ a) b waits)
