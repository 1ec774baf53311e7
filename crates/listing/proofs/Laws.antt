-- The lister's laws, over the definitions and so over the promises of `add_line`, `list_piece`, `list_some` and `list_all`: no line is
-- lost, and cuts change nothing. Each is shown in the file that its proof cites.
use Prim.Native.Nat.{ℕ}
use mathlib.Core.List.{List, [], ◌++◌}
use mathlib.Core.Path.{◌≡◌}
use Rattle.message.specs.Items.{Item}
use Rattle.listing_lines.specs.Waiting.{lines_of, writes_after, waits_after}
use Rattle.listing_lines.proofs.Joining as joining
use Rattle.listing.specs.Standing.{items_in, Standing, fresh, listed, writes_in}
use Rattle.listing.proofs.Onward as onward

-- "a line an item": what is written while the lines of some items join and what waits then are together those that waited before and a
-- line for each item, in order
pub nothing_lost : (room : ℕ) (waiting : List ℕ) (items : List Item)
    → writes_after room waiting items ++ waits_after room waiting items ≡ waiting ++ lines_of items
nothing_lost = joining.nothing_lost

-- so from the beginning on, and whatever the buffer's room is, they are the lines of all items of the input
pub lines_of_input : (room : ℕ) (input : List ℕ)
    → writes_in room fresh input ++ (listed room fresh input).waiting ≡ lines_of (items_in [] input)
unfolding listed writes_in
lines_of_input room input = nothing_lost room [] (items_in [] input)

-- a piece in two parts is listed as the whole: so what was read piece by piece is listed as all of it
pub cuts_change_nothing : (room : ℕ) (start : Standing) (first second : List ℕ)
    → listed room start (first ++ second) ≡ listed room (listed room start first) second
cuts_change_nothing = onward.listed_on
