-- Lines that wait: no line is lost.
use Prim.Native.Nat.{ℕ}
use mathlib.Core.Bool.{Bool, true, false}
use mathlib.Core.List.{List, [], ◌∷◌, ◌++◌, append_assoc, append-nil}
use mathlib.Core.Path.{◌≡◌, refl, sym, ap, ◌∙◌}
use Rattle.message.specs.Items.{Item}
use Rattle.listing_lines.specs.Text.{line_of}
use Rattle.listing_lines.specs.Waiting.{lines_of, has_room, writes, waits, writes_after, waits_after}

-- one line
one_by : (room : ℕ) (waiting : List ℕ) (item : Item) (t : Bool) → has_room room waiting ≡ t
    → writes room waiting ++ waits room waiting item ≡ waiting ++ line_of item
unfolding writes waits
one_by room waiting item true h = rw h
one_by room waiting item false h = rw h

-- all lines
pub nothing_lost : (room : ℕ) (waiting : List ℕ) (items : List Item)
    → writes_after room waiting items ++ waits_after room waiting items ≡ waiting ++ lines_of items
unfolding writes_after waits_after lines_of
nothing_lost room waiting [] = sym (append-nil waiting)
nothing_lost room waiting (item ∷ items) =
    append_assoc (writes room waiting) _ _
    ∙ ap (λ (l : List ℕ). writes room waiting ++ l) (nothing_lost room (waits room waiting item) items)
    ∙ sym (append_assoc (writes room waiting) (waits room waiting item) (lines_of items))
    ∙ ap (λ (l : List ℕ). l ++ lines_of items) (one_by room waiting item (has_room room waiting) refl)
    ∙ append_assoc waiting (line_of item) (lines_of items)
