-- Document 01, "Request-row audit", as statements about the positions of a row: what `proofs/Laws.antt` shows of the answer.
use Rattle.std.specs.Prelude.{ℕ, ◌≤◌, ◌<◌, List, ◌≢◌, ◌≡◌, length, get_or}
use Rattle.std.specs.Prelude.{Option, None, Some}

-- the ID at a position
abbrev pub id_at : List ℕ → ℕ → ℕ
id_at ids i = get_or ids i 0

-- a position "whose ID is 0, at most R, or equal to an earlier one"
pub data Unsound (r : ℕ) (ids : List ℕ) (i : ℕ) : Type 0 where
  is_zero : id_at ids i ≡ 0 → Unsound r ids i
  is_reserved : id_at ids i ≤ r → Unsound r ids i
  is_repeated : (j : ℕ) → j < i → id_at ids j ≡ id_at ids i → Unsound r ids i

-- "the first position, counted from 0": in the row, unsound, and no earlier one is
pub record IsFirst (r : ℕ) (ids : List ℕ) (i : ℕ) : Type 0 where
  pub within : i < length ids
  pub unsound : Unsound r ids i
  pub before : (j : ℕ) → j < i → Unsound r ids j → ⊥

-- "or that there is none"
abbrev pub NoneUnsound : (r : ℕ) → List ℕ → Type 0
NoneUnsound r ids = (i : ℕ) → i < length ids → Unsound r ids i → ⊥

-- "The answer is the first position, .., or that there is none."
pub data IsAnswer (r : ℕ) (ids : List ℕ) : Option ℕ → Type 0 where
  first_position : (i : ℕ) → IsFirst r ids i → IsAnswer r ids (Some i)
  no_position : NoneUnsound r ids → IsAnswer r ids None

-- a row with none, said of its IDs: each is above R, and so not 0, and no two are equal
pub record Sound (r : ℕ) (ids : List ℕ) : Type 0 where
  pub unreserved : (i : ℕ) → i < length ids → r < id_at ids i
  pub distinct : (i j : ℕ) → j < i → i < length ids → id_at ids j ≢ id_at ids i
