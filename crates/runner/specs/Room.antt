-- Lines that wait to be written (docs/SESSION-SCRIPT.md): each waits behind the ones before it, until there is no room for one more.
use Rattle.std.specs.Prelude.{ℕ, ◌+◌, Bool, cond as if, List, [], ◌++◌, leb, length}
use Rattle.runner.specs.declared.sheet.TheConstants.{OUT_LENGTH}

-- room that a line is given, its end included; the longest has 16,759 bytes
abbrev pub line_room : ℕ
line_room = 17000

-- whether a line fits behind those that wait
abbrev pub has_room : (waiting : List ℕ) → Bool
has_room waiting = leb (length waiting + line_room) OUT_LENGTH

-- what is written before a line joins: nothing where there is room, otherwise all that waits
unfoldable pub writes : (waiting : List ℕ) → List ℕ
writes waiting = if (has_room waiting) [] waiting

-- what waits once a line has joined
unfoldable pub waits : (waiting line : List ℕ) → List ℕ
waits waiting line = if (has_room waiting) (waiting ++ line) line
