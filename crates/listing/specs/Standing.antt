-- Document 01, "Capture lister": "It reads standard input and prints .. a line an item". How far a listing is, and how far a piece of
-- the input brings it.
use Rattle.std.specs.Prelude.{ℕ, List, [], ◌∷◌}
use Rattle.message.specs.Items.{Item}
use Rattle.line.specs.Cuts.{Found, found, handed}
use Rattle.listing_lines.specs.Waiting.{writes_after, waits_after}

-- the items that were found, without their payloads
unfoldable pub items_of : List Found → List Item
items_of [] = []
items_of (found item payload ∷ others) = item ∷ items_of others

-- the items of a piece that is handed in, "its untaken rest again, until receive answers *more*"
abbrev pub items_in : (held piece : List ℕ) → List Item
items_in held piece = items_of (handed held piece).items

-- how far a listing is: the lines that wait, and the bytes that are held
pub record Standing : Type 0 where
  pub waiting : List ℕ
  pub held : List ℕ

-- at the beginning
abbrev pub fresh : Standing
fresh = record { waiting = []; held = [] }

-- how far it is once a piece was handed in
unfoldable pub listed : (room : ℕ) → Standing → (piece : List ℕ) → Standing
listed room s piece =
    record { waiting = waits_after room s.waiting (items_in s.held piece); held = (handed s.held piece).held }

-- what is written meanwhile
unfoldable pub writes_in : (room : ℕ) → Standing → (piece : List ℕ) → List ℕ
writes_in room s piece = writes_after room s.waiting (items_in s.held piece)
