-- Document 01, "Capture lister": "a line an item". Lines are written many at a time: each waits behind the ones before it, in a buffer
-- of so much room, until there is none for one more.
use Rattle.std.specs.Prelude.{ℕ, ◌+◌, Bool, cond as if, List, [], ◌∷◌, ◌++◌, leb, length}
use Rattle.message.specs.Items.{Item}
use Rattle.listing_lines.specs.Text.{line_of, line_room}

-- "a line an item": all lines, in the items' order
unfoldable pub lines_of : List Item → List ℕ
lines_of [] = []
lines_of (item ∷ items) = line_of item ++ lines_of items

-- whether there is room for one more line behind those that wait
abbrev pub has_room : (room : ℕ) (waiting : List ℕ) → Bool
has_room room waiting = leb (length waiting + line_room) room

-- what is written before a line joins: nothing where there is room, otherwise all that waits
unfoldable pub writes : (room : ℕ) (waiting : List ℕ) → List ℕ
writes room waiting = if (has_room room waiting) [] waiting

-- what waits once the line of an item has joined: those that waited and the line where there is room, otherwise the line alone
unfoldable pub waits : (room : ℕ) (waiting : List ℕ) → Item → List ℕ
waits room waiting item = if (has_room room waiting) (waiting ++ line_of item) (line_of item)

-- what is written while the lines of some items join, in order
unfoldable pub writes_after : (room : ℕ) (waiting : List ℕ) → List Item → List ℕ
writes_after room waiting [] = []
writes_after room waiting (item ∷ items) = writes room waiting ++ writes_after room (waits room waiting item) items

-- what waits once they have joined
unfoldable pub waits_after : (room : ℕ) (waiting : List ℕ) → List Item → List ℕ
waits_after room waiting [] = waiting
waits_after room waiting (item ∷ items) = waits_after room (waits room waiting item) items
