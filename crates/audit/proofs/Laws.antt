-- The definition of the audit is what document 01 says, "Request-row audit": it answers the first unsound position or that there is
-- none, no other answer is right, and there is none exactly where the IDs are unreserved and distinct. `Positions.antt` has the proofs.
use Prim.Native.Nat.{ℕ}
use mathlib.Core.List.{List, []}
use Rattle.std.specs.Prelude.{Option, None, Some}
use mathlib.Core.Path.{◌≡◌, refl}
use Rattle.audit.specs.Audit.{first_from, audit}
use Rattle.audit.specs.Rows.{IsFirst, IsAnswer, first_position, Sound}
use Rattle.audit.proofs.Positions as positions

module _ (r : ℕ) (ids : List ℕ) where
  -- "The answer is the first position, counted from 0, whose ID is 0, at most R, or equal to an earlier one, or that there is none."
  pub is_answer : IsAnswer r ids (audit r ids)
  is_answer = positions.answers r ids

  -- no other answer is right
  pub only_answer : {answer : Option ℕ} → IsAnswer r ids answer → audit r ids ≡ answer
  only_answer a = positions.same_answer r ids is_answer a

  -- a position that is found is the first unsound one
  pub found_is_first : (i : ℕ) → audit r ids ≡ Some i → IsFirst r ids i
  found_is_first i e = positions.position_of r ids (rw e at is_answer)

  -- the first unsound one is found
  pub first_is_found : (i : ℕ) → IsFirst r ids i → audit r ids ≡ Some i
  first_is_found i f = only_answer (first_position i f)

  -- where none is found, every ID is above R and no two are equal
  pub none_is_sound : audit r ids ≡ None → Sound r ids
  none_is_sound e = positions.sound_of r ids (rw e at is_answer)

  -- where every ID is above R and no two are equal, none is found
  pub sound_is_none : Sound r ids → audit r ids ≡ None
  sound_is_none s = only_answer (positions.answer_none r ids s)

-- "An empty row has none."
pub empty_row : (r : ℕ) → audit r [] ≡ None
unfolding first_from
empty_row r = refl
