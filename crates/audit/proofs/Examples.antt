-- Rows and the answers of their audits, by computing the definition.
use mathlib.Core.List.{[], ◌∷◌}
use Rattle.std.specs.Prelude.{None, Some}
use mathlib.Core.Path.{◌≡◌, refl}
use Rattle.audit.specs.Audit.{is_among, is_unsound, first_from, audit}

pub record Examples : Type 0 where
  -- "An empty row has none."
  pub empty : audit 255 [] ≡ None
  -- "whose ID is 0", for the least R
  pub id_0 : audit 0 (0 ∷ []) ≡ Some 0
  -- "at most R": R itself, and not the one above it
  pub id_of_r : audit 38 (38 ∷ []) ≡ Some 0
  pub id_above_r : audit 38 (39 ∷ []) ≡ None
  -- "equal to an earlier one": the later of the two is named
  pub next_to_it : audit 0 (1 ∷ 1 ∷ []) ≡ Some 1
  pub further_on : audit 38 (39 ∷ 40 ∷ 39 ∷ []) ≡ Some 2
  -- "the first position"
  pub first_of_two : audit 38 (40 ∷ 7 ∷ 40 ∷ []) ≡ Some 1
  -- "or that there is none", up to the last ID
  pub none_unsound : audit 38 (39 ∷ 65535 ∷ []) ≡ None
  -- an R of the last ID: no ID is sound
  pub last_id_law : audit 65535 (65535 ∷ []) ≡ Some 0

pub examples : Examples
unfolding is_among is_unsound first_from
examples = record {
  empty = refl;
  id_0 = refl;
  id_of_r = refl;
  id_above_r = refl;
  next_to_it = refl;
  further_on = refl;
  first_of_two = refl;
  none_unsound = refl;
  last_id_law = refl;
}
