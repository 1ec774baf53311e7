-- The ID that submit issues is not live, and is one of those that may be issued: the IDs from one on come back to it only after all
-- others, and there are more of them than live requests.
use Prim.Native.Nat.{ℕ, zero, suc, ◌+◌, ◌≤◌, ◌<◌}
use mathlib.Core.Bool.{true, false, ◌||◌, cond as if}
use mathlib.Core.List.{List, [], ◌∷◌}
use mathlib.Core.Path.{◌≡◌, refl, sym, ◌∙◌}
use native.Mathlib.Omega.{arith}
use lib.Dec.{eqb}
use lib.ListN.{length}
use borrow.Author.Tests.{eqb-true, eqb-false, ne_eqb}
use Rattle.ledger.specs.Parts.{Request}
use Rattle.ledger.specs.Submitting.{last_id, id_after, is_live, first_free}
use Rattle.ledger.proofs.Cases.{by_test}

-- an ID that may be issued
pub record Unreserved (r id : ℕ) : Type 0 where
  pub above : r < id
  pub within : id ≤ last_id

-- the requests without those of an ID
removed : ℕ → List Request → List Request
removed id [] = []
removed id (q ∷ qs) = if (eqb q.id id) (removed id qs) (q ∷ removed id qs)

fewer : (id : ℕ) (qs : List Request) → length (removed id qs) ≤ length qs
unfolding removed
fewer id [] = omega arith
fewer id (q ∷ qs) =
    let rest = fewer id qs in
    by_test (λ b. length (if b (removed id qs) (q ∷ removed id qs)) ≤ suc (length qs)) (eqb q.id id) (λ e. omega arith)
    (λ e. omega arith)

one_fewer : (id : ℕ) (qs : List Request) → is_live id qs ≡ true → suc (length (removed id qs)) ≤ length qs
unfolding is_live removed
one_fewer id [] h = let z : ◌≡◌ {A = ℕ} 0 1 = cc in absurd (omega arith)
one_fewer id (q ∷ qs) h =
    let few = fewer id qs in
    by_test (λ b. b || is_live id qs ≡ true → suc (length (if b (removed id qs) (q ∷ removed id qs))) ≤ suc (length qs))
    (eqb q.id id)
    (λ e h. omega arith)
    (λ e h. let rest = one_fewer id qs h in omega arith)
    h

others_stay : (id x : ℕ) → (x ≡ id → ⊥) → (qs : List Request) → is_live x (removed id qs) ≡ is_live x qs
unfolding is_live removed
others_stay id x ne [] = refl
others_stay id x ne (q ∷ qs) =
    let rest = others_stay id x ne qs in
    by_test (λ b. is_live x (if b (removed id qs) (q ∷ removed id qs)) ≡ (eqb q.id x || is_live x qs)) (eqb q.id id)
    (λ e. rw (ne_eqb q.id x (λ k. ne (sym k ∙ eqb-true q.id id e))) rest)
    (λ e. rw rest)

-- x stands k steps after id
data Ahead (r id k x : ℕ) : Type 0 where
  straight : x ≡ id + k → Ahead r id k x
  around : x + last_id ≡ id + k + r → Ahead r id k x

module _ (r : ℕ) (small : r < last_id) where
  pub after_unreserved : {id : ℕ} → Unreserved r id → Unreserved r (id_after r id)
  unfolding id_after
  after_unreserved {id} h =
      by_test (λ b. Unreserved r (if b (suc r) (suc id))) (eqb id last_id)
      (λ e. record { above = omega arith; within = omega arith })
      (λ e. let ne = eqb-false id last_id e in record { above = omega arith; within = omega arith })

  step_on : {id k x : ℕ} → id ≤ last_id → k + r < last_id → Ahead r id k x → Ahead r id (suc k) (id_after r x)
  unfolding id_after
  step_on {id} {k} {x} u less (straight a) =
      by_test (λ b. Ahead r id (suc k) (if b (suc r) (suc x))) (eqb x last_id)
      (λ e. let m = eqb-true x last_id e in around (omega arith))
      (λ e. straight (omega arith))
  step_on {id} {k} {x} u less (around a) =
      by_test (λ b. Ahead r id (suc k) (if b (suc r) (suc x))) (eqb x last_id)
      (λ e. let m = eqb-true x last_id e in absurd (omega arith))
      (λ e. around (omega arith))

  away : {id k x : ℕ} → 0 < k → k + r < last_id → Ahead r id k x → x ≡ id → ⊥
  away p less (straight a) e = omega arith
  away p less (around a) e = omega arith

  record Same (id x y : ℕ) : Type 0 where
    same : x ≡ y
    other : x ≡ id → ⊥

  -- from a place after id, the search does not meet id
  agree : (n : ℕ) {id k x : ℕ} → id ≤ last_id → (qs : List Request) → 0 < k → n + k + r < last_id → Ahead r id k x
      → Same id (first_free n r qs x) (first_free n r (removed id qs) x)
  unfolding first_free
  agree zero {id} {k} {x} u qs p less a =
      let k-less : k + r < last_id = omega arith in record { same = refl; other = away p k-less a }
  agree (suc n) {id} {k} {x} u qs p less a =
      let k-less : k + r < last_id = omega arith in
      let n-less : n + suc k + r < last_id = omega arith in
      let rest = agree n u qs (omega arith) n-less (step_on u k-less a) in
      rw (others_stay id x (away p k-less a) qs)
      (by_test (λ b. Same id (if b (first_free n r qs (id_after r x)) x) (if b (first_free n r (removed id qs) (id_after r x)) x))
      (is_live x qs)
      (λ e. rest)
      (λ e. record { same = refl; other = away p k-less a }))

  pub first_free_law : (n : ℕ) (qs : List Request) {id : ℕ} → length qs ≤ n → n + 1 + r < last_id → Unreserved r id
      → is_live (first_free n r qs id) qs ≡ false
  unfolding first_free is_live
  first_free_law zero [] few less u = refl
  first_free_law zero (q ∷ qs) few less u = absurd (omega arith)
  first_free_law (suc n) qs {id} few less u =
      by_test (λ b. is_live (if b (first_free n r qs (id_after r id)) id) qs ≡ false) (is_live id qs)
      (λ e.
      let now : Ahead r id 0 id = straight (omega arith) in
      let s = agree n {k = 1} u.within qs (omega arith) (omega arith) (step_on {k = 0} u.within (omega arith) now) in
      let few : length (removed id qs) ≤ n = omega (arith, one_fewer id qs e) in
      let rest = first_free_law n (removed id qs) few (omega arith) (after_unreserved u) in
      sym (others_stay id (first_free n r qs (id_after r id)) s.other qs) ∙ rw s.same rest)
      (λ e. e)

  pub free_unreserved : (n : ℕ) (qs : List Request) {id : ℕ} → Unreserved r id → Unreserved r (first_free n r qs id)
  unfolding first_free
  free_unreserved zero qs u = u
  free_unreserved (suc n) qs {id} u =
      by_test (λ b. Unreserved r (if b (first_free n r qs (id_after r id)) id)) (is_live id qs)
      (λ e. free_unreserved n qs (after_unreserved u))
      (λ e. u)
