-- The first free ID: one turn of the search for it, and that the data of the requests do not matter.
use Prim.Native.Nat.{ℕ, zero, suc, ◌-◌, ◌≤◌, ◌<◌}
use mathlib.Core.Bool.{true, false}
use mathlib.Core.List.{List}
use mathlib.Core.Path.{◌≡◌, refl}
use native.Mathlib.Omega.{arith}
use Rattle.ledger.specs.Parts as ledger
use Rattle.ledger.specs.Submitting.{id_after, is_live, first_free}
use Rattle.endpoint.specs.Endpoint.{requests_from}
use Rattle.endpoint.specs.Malformed.{bare_of}
use Rattle.endpoint.specs.declared.Request.{Request}
use Rattle.endpoint.proofs.Listed.{live_rows}

-- it is this one where no more may be passed over or this one is not live, and otherwise comes after it
module _ (r : ℕ) (live : List ledger.Request) (id : ℕ) where
  pub free_here : (n : ℕ) → is_live id live ≡ false → first_free n r live id ≡ id
  unfolding first_free
  free_here zero h = refl
  free_here (suc n) h = rw h

  pub free_end : (n : ℕ) → n ≤ 0 → first_free n r live id ≡ id
  unfolding first_free
  free_end zero h = refl
  free_end (suc n) h = absurd (omega arith)

  pub free_on : (n : ℕ) → 0 < n → is_live id live ≡ true → first_free n r live id ≡ first_free (n - 1) r live (id_after r id)
  unfolding first_free
  free_on zero less h = absurd (omega arith)
  free_on (suc n) less h = let same : suc n - 1 ≡ n = omega arith in rw (h, same)

pub ruleset free = (free_here, free_on, free_end)

-- it is the same without the data of the requests
pub free_rows : (n r : ℕ) (rows : List Request) (k : ℕ) (store : List ℕ) (id : ℕ)
    → first_free n r (requests_from k rows store) id ≡ first_free n r (bare_of rows) id
unfolding first_free
free_rows zero r rows k store id = refl
free_rows (suc n) r rows k store id = rw (live_rows id rows k store, free_rows n r rows k store (id_after r id))
