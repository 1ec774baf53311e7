-- Document 01, "Request-row audit": "the insurer's tool lends a row of request records, each with an ID, and a number R". This is the
-- audit of the IDs of a row.
use Rattle.std.specs.Prelude.{ℕ, suc, Bool, false, ◌||◌, cond as if, List, [], ◌∷◌, eqb, leb}
use Rattle.std.specs.Prelude.{Option, None, Some}

-- "equal to an earlier one": an ID is among others
unfoldable pub is_among : ℕ → List ℕ → Bool
is_among id [] = false
is_among id (other ∷ others) = eqb id other || is_among id others

-- "whose ID is 0, at most R, or equal to an earlier one"
unfoldable pub is_unsound : (r : ℕ) → (earlier : List ℕ) → ℕ → Bool
is_unsound r earlier id = eqb id 0 || (leb id r || is_among id earlier)

-- "the first position .., or that there is none": of a part of a row that begins at a position, with the IDs earlier in the row
unfoldable pub first_from : (r : ℕ) → (earlier : List ℕ) → (position : ℕ) → List ℕ → Option ℕ
first_from r earlier position [] = None
first_from r earlier position (id ∷ ids) =
    if (is_unsound r earlier id) (Some position)
    (first_from r (id ∷ earlier) (suc position) ids)

-- "counted from 0": the whole row
abbrev pub audit : (r : ℕ) → List ℕ → Option ℕ
audit r ids = first_from r [] 0 ids
