-- Document 01, "How bytes become items": held bytes followed by new ones become at most one item a call.
use Rattle.std.specs.Prelude.{ℕ, zero, suc, ◌+◌, Bool, true, false, cond as if, List, ◌++◌, length, take, drop}
use Rattle.message.specs.Items.{Item, Scan, undecided, decided, scan, payload_of}

-- "At most 265 bytes are held.": the limit, stated here alone
abbrev pub held_max : ℕ
held_max = 265

-- the smallest of the n numbers from k up that passes a test; the one after them if none does
unfoldable pub smallest : (ℕ → Bool) → (k n : ℕ) → ℕ
smallest test k zero = k
smallest test k (suc n) = if (test k) k (smallest test (suc k) n)

-- whether the six rules decide an item
abbrev pub decides : Scan → Bool
decides (undecided d) = false
decides (decided item d r) = true

-- "It takes the smallest number of new bytes, from 0 up, that decides one; if none does, all"
unfoldable pub taken : (held new : List ℕ) → ℕ
taken held new = smallest (λ k. decides (scan (held ++ take k new))) 0 (length new)

-- "Each receive call decides at most one item .. it answers *more*"
pub data Answer : Type 0 where
  more : Answer
  item : Item → Answer

-- what the six rules say, as an answer
abbrev pub answered : Scan → Answer
answered (undecided d) = more
answered (decided i d r) = item i

-- "What follows is held as it is", or with *more* "what is left after dropping"
abbrev pub left : Scan → List ℕ → List ℕ
left (undecided d) xs = drop d xs
left (decided i d r) xs = drop (d + r) xs

-- what a call gives: the item or *more*, an item's payload, how many new bytes it takes, and the bytes held afterwards
pub record Received : Type 0 where
  pub answer : Answer
  pub payload : List ℕ
  pub taken : ℕ
  pub held : List ℕ

-- the same of the bytes that it looks at
abbrev pub received_from : (looked : List ℕ) (taken : ℕ) → Received
received_from looked n = record {
  answer = answered (scan looked);
  payload = payload_of looked;
  taken = n;
  held = left (scan looked) looked;
}

-- "Take the held bytes followed by the new ones": as many new ones as the call takes
unfoldable pub receive : (held new : List ℕ) → Received
receive held new = received_from (held ++ take (taken held new) new) (taken held new)
