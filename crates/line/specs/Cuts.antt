-- Document 01, demand 2's statement about cuts: "the items found when each piece is handed in, its untaken rest again, until
-- receive answers *more*".
use Rattle.std.specs.Prelude.{ℕ, zero, suc, ◌+◌, List, [], ◌∷◌, ◌++◌, length, take, drop}
use Rattle.message.specs.Items.{Item, Scan, undecided, decided, scan}
use Rattle.line.specs.Receiving.{Answer, more, item, receive}

-- an item that was found, with its payload
pub data Found : Type 0 where
  found : Item → (payload : List ℕ) → Found

-- what was found in the end: the items in order, and the bytes held
pub record Heard : Type 0 where
  pub items : List Found
  pub held : List ℕ

-- items found before others
abbrev pub before : List Found → Heard → Heard
before items heard = record { items = items ++ heard.items; held = heard.held }

-- what an answer leads to: the end, or one item and what comes after it
abbrev pub on_answer : Answer → (end : List ℕ) (payload : List ℕ) (next : Heard) → Heard
on_answer more end payload next = record { items = []; held = end }
on_answer (item i) end payload next = before (found i payload ∷ []) next

-- a piece is handed in, its untaken rest again, until *more*, at most so many times
unfoldable pub handed_in : (times : ℕ) (held piece : List ℕ) → Heard
handed_in zero held piece = record { items = []; held = held }
handed_in (suc n) held piece =
    let r = receive held piece in
    on_answer r.answer r.held r.payload (handed_in n r.held (drop r.taken piece))

-- the same until *more*: each item removes bytes, so there are no more items than bytes (law `handed_more`, `handed_item`)
unfoldable pub handed : (held piece : List ℕ) → Heard
handed held piece = handed_in (suc (length held + length piece)) held piece

-- each piece of a list is handed in so
unfoldable pub handed_each : (held : List ℕ) (pieces : List (List ℕ)) → Heard
handed_each held [] = record { items = []; held = held }
handed_each held (piece ∷ pieces) =
    let first = handed held piece in before first.items (handed_each first.held pieces)

-- the pieces joined
unfoldable pub joined : List (List ℕ) → List ℕ
joined [] = []
joined (piece ∷ pieces) = piece ++ joined pieces

-- where every byte goes: how many are dropped, and removed with an item
abbrev pub gone : Scan → ℕ
gone (undecided d) = d
gone (decided i d r) = d + r

-- the bytes that go in a call, dropped ones before removed ones
abbrev pub gone_in : (held new : List ℕ) → List ℕ
gone_in held new = let looked = held ++ take (receive held new).taken new in take (gone (scan looked)) looked

-- what goes after an answer: with *more* nothing is handed in again
abbrev pub on_item : Answer → (next : List ℕ) → List ℕ
on_item more next = []
on_item (item i) next = next

-- the bytes that go while a piece is handed in, its untaken rest again, until *more*, in order
unfoldable pub went_in : (times : ℕ) (held piece : List ℕ) → List ℕ
went_in zero held piece = []
went_in (suc n) held piece =
    let r = receive held piece in gone_in held piece ++ on_item r.answer (went_in n r.held (drop r.taken piece))

-- the same until *more*
unfoldable pub went : (held piece : List ℕ) → List ℕ
went held piece = went_in (suc (length held + length piece)) held piece
