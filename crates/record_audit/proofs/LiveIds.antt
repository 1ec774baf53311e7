-- The IDs of the live requests of an endpoint, from two clauses of the malformed rule: "a live .. ID outside R + 1 to 65535" and "two
-- equal live IDs".
use Prim.Native.Nat.{ℕ, zero, suc, ◌<◌}
use mathlib.Core.Bool.{false, and-eq-true_iff}
use mathlib.Core.List.{List, [], ◌∷◌}
use mathlib.Core.Logic.{◌≢◌}
use mathlib.Core.Path.{◌≡◌, sym}
use native.Mathlib.Omega.{arith}
use lib.Dec.{eqb, leb}
use lib.ListN.{length}
use borrow.Author.Tests.{eqb-false, leb-true, not-false}
use Rattle.audit.specs.Rows.{id_at}
use Rattle.ledger.specs.Submitting.{last_id, is_live}
use Rattle.ledger.specs.Refusals.{some_of, is_outside, two_equal}
use Rattle.endpoint.specs.Malformed.{bare_of}
use Rattle.endpoint.specs.declared.Request.{Request}
use Rattle.std.proofs.lemmas.Bool.{or_parts}
use Rattle.record_audit.specs.Records.{ids_of}

-- no ID outside: each is above R
pub above : (r : ℕ) (rows : List Request) → some_of (λ q. is_outside r q.id) (bare_of rows) ≡ false
    → (i : ℕ) → i < length (ids_of rows) → r < id_at (ids_of rows) i
unfolding some_of
above r [] none-outside i inside = absurd (omega arith)
above r (q ∷ rows) none-outside zero inside =
    let own = (or_parts (is_outside r q.id.0) _ none-outside).0 in
    leb-true (suc r) q.id.0 ((and-eq-true_iff (leb (suc r) q.id.0) (leb q.id.0 last_id)).0 (not-false _ own)).0
above r (q ∷ rows) none-outside (suc i) inside =
    above r rows (or_parts (is_outside r q.id.0) _ none-outside).1 i (omega arith)

-- an ID that is not live is that of no row
not_live : (id : ℕ) (rows : List Request) → is_live id (bare_of rows) ≡ false → (i : ℕ) → i < length (ids_of rows) → id ≢ id_at (ids_of rows) i
unfolding is_live
not_live id [] free i inside same = omega arith
not_live id (q ∷ rows) free zero inside same = eqb-false q.id.0 id (or_parts (eqb q.id.0 id) _ free).0 (sym same)
not_live id (q ∷ rows) free (suc i) inside same = not_live id rows (or_parts (eqb q.id.0 id) _ free).1 i (omega arith) same

-- no two equal: those at two positions differ
pub apart : (rows : List Request) → two_equal (bare_of rows) ≡ false
    → (i j : ℕ) → j < i → i < length (ids_of rows) → id_at (ids_of rows) j ≢ id_at (ids_of rows) i
unfolding two_equal
apart [] unequal i j less inside = absurd (omega arith)
apart (q ∷ rows) unequal zero j less inside = absurd (omega arith)
apart (q ∷ rows) unequal (suc i) zero less inside =
    not_live q.id.0 rows (or_parts (is_live q.id.0 (bare_of rows)) _ unequal).0 i (omega arith)
apart (q ∷ rows) unequal (suc i) (suc j) less inside =
    apart rows (or_parts (is_live q.id.0 (bare_of rows)) _ unequal).1 i j (omega arith) (omega arith)
