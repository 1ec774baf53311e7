-- The rows in use: how many they are, which one stands where, and which one is next.
use Prim.Native.Nat.{ℕ, suc, ◌+◌, ◌≤◌, ◌<◌}
use mathlib.Core.Bool.{false}
use mathlib.Core.List.{List, ◌∷◌}
use mathlib.Core.Path.{◌≡◌, ap, ◌∙◌}
use native.Mathlib.Numerals.{add-one}
use native.Mathlib.Omega.{arith}
use lib.ListN.{length, take, drop, get_or}
use lib.Seq.{length-take-le, drop-cons, get_or-take}
use Rattle.ledger.specs.Parts.{live_max}
use Rattle.endpoint.specs.Endpoint.{rows_of}
use Rattle.endpoint.specs.declared.State.TheVariants.{Queued}
use Rattle.endpoint.specs.declared.Request.{Request}
use Rattle.endpoint.specs.declared.Requests.{Requests}

-- what an element read outside the rows would give
abbrev pub blank_row : Request
blank_row = record {
  id = record { 0 = 0 };
  fields = record { tc = 0; tid = 0; sid = 0; iid = 0; cid = 0 };
  wanted = false;
  len = 0;
  state = Queued;
}

-- the first n of some rows are n rows
pub length_first : (rows : List Request) (n : ℕ) → n ≤ length rows → length (take n rows) ≡ n
length_first rows n h = length-take-le n rows h

-- one of them is the row itself
pub first_at : (rows : List Request) (n i : ℕ) → i < n → get_or (take n rows) i blank_row ≡ get_or rows i blank_row
first_at rows n i h = get_or-take n rows i blank_row h

-- from one on, that one comes and then the others
pub first_next : (rows : List Request) (n i : ℕ) → n ≤ length rows → i < n
    → drop i (take n rows) ≡ get_or rows i blank_row ∷ drop (suc i) (take n rows)
first_next rows n i h less =
    drop-cons (take n rows) i blank_row (rw (length_first rows n h) less)
    ∙ ap (λ (q : Request). q ∷ drop (suc i) (take n rows)) (first_at rows n i less)

-- what is left of the rows in use, and a row
abbrev pub rest : Requests → ℕ → List Request
rest live i = drop i (rows_of live)

abbrev pub row : Requests → ℕ → Request
row live i = get_or live.rows i blank_row

-- the same of the rows in use
module _ (live : Requests) (three : length live.rows ≡ live_max) (few : live.count ≤ live_max) where
  within : live.count ≤ length live.rows
  within = omega arith

  pub length_rows : length (rows_of live) ≡ live.count
  length_rows = length_first live.rows live.count within

  pub rows_at : (i : ℕ) → i < live.count → get_or (rows_of live) i blank_row ≡ get_or live.rows i blank_row
  rows_at i less = first_at live.rows live.count i less

  pub rows_next : (i : ℕ) → i < live.count → drop i (rows_of live) ≡ get_or live.rows i blank_row ∷ drop (suc i) (rows_of live)
  rows_next i less = first_next live.rows live.count i within less

  -- and in the terms of a loop
  pub rows_turn : (i : ℕ) → i < live.count → rest live i ≡ row live i ∷ rest live (i + 1)
  rows_turn i less = rows_next i less ∙ rw (add-one i)
