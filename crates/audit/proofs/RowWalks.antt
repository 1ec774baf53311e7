-- A walk over a row by `position`, whose closure keeps a table of the IDs seen: the laws of `Walks.antt` along the calls.
use Prim.Native.Nat.{ℕ, ◌+◌}
use mathlib.Core.Bool.{Bool, true, false}
use mathlib.Core.List.{List, [], ◌∷◌, map}
use mathlib.Core.Path.{◌≡◌, refl, sym, ap, subst, ◌∙◌}
use native.Mathlib.Omega.{arith}
use denote.Param.Members.{Mut, Called}
use denote.Ref.{Bor}
use lib.ListN.{length}
use Rattle.std.specs.Prelude.{Option, None, Some}
use Rattle.std.specs.Option.{MatchOption}
use Rattle.std.specs.Iterator.{AlwaysYields, YieldsThen}
use Rattle.std.specs.List.{FoldsTo}
use Rattle.audit.specs.Audit.{audit}
use Rattle.audit.specs.Code.{Judged}
use Rattle.audit.proofs.Walks.{Walked, walk_finds, walk_goes_on, walk_ends}

module _ {A S F : Type 0} (id_of : A → ℕ) (r : ℕ) (row : List ℕ) (steps : S → Option (Bor A) → S → Type 0) (u : S) (g : Mut F (Bor A × Unit {0}) Bool)
    (table : F → List ℕ) (limit : F → ℕ)
    (step : (p q : F) (x : Bor A) (b : Bool) → Called g p (x, tt) b q → (limit q ≡ limit p) × Judged (limit p) (id_of x.now) (table p) (table q) b) where
  -- a call, at an ID and a number that are known
  called : (p q : F) (x : Bor A) (b : Bool) (y : A) → x.now ≡ y → limit p ≡ r → Called g p (x, tt) b q → Judged r (id_of y) (table p) (table q) b
  called p q x b y same low call =
      subst (λ (k : ℕ). Judged k (id_of y) (table p) (table q) b) low
      (subst (λ (z : A). Judged (limit p) (id_of z) (table p) (table q) b) same (step p q x b call).1)

  pub row_walk : (rest : List A) (i : ℕ) (s : S) (p : F) → AlwaysYields steps (λ x. x.now) s rest → limit p ≡ r
      → Walked r row (table p) i (map id_of rest) → (xs : List (Bor A)) (n : ℕ) → n ≡ i + length xs → (o : Option (Bor A)) (j : F) (found : Option ℕ) → YieldsThen steps s xs o u
      → FoldsTo (λ p x q. Called g p (x, tt) false q) p xs j
      → MatchOption o (found ≡ None) (λ x. (found ≡ Some n) × ((h : F) × Called g j (x, tt) true h)) → found ≡ audit r row
  row_walk [] i s p always low walked [] n count None j found (t, same, last) folds none = none ∙ walk_ends r row (table p) i walked
  row_walk [] i s p always low walked [] n count (Some x) j found (t, same, last) folds some = absurd (always x u (rw (sym same) at last))
  row_walk [] i s p always low walked (x ∷ xs) n count o j found (t, (k, first, more), last) folds some = absurd (always x k first)
  row_walk (y ∷ ys) i s p always low walked [] n count None j found (t, same, last) folds none = absurd (always.0 u (rw (sym same) at last))
  row_walk (y ∷ ys) i s p always low walked [] n count (Some x) j found (t, same, last) folds (place, (h, call)) =
      let told = always.1 x u (rw (sym same) at last) in
      let is : n ≡ i = omega arith in
      let judged = called p h x true y told.0 low (rw (sym folds) at call) in
      place ∙ ap Some is ∙ walk_finds r row (table p) i (id_of y) (map id_of ys) walked (table h) true judged refl
  row_walk (y ∷ ys) i s p always low walked (x ∷ xs) n count o j found (t, (k, first, more), last) (q, call, folds) some =
      let told = always.1 x k first in
      let judged = called p q x false y told.0 low call in
      row_walk ys (i + 1) k q told.1 ((step p q x false call).0 ∙ low)
      (walk_goes_on r row (table p) i (id_of y) (map id_of ys) walked (table q) false judged refl)
      xs n (omega arith) o j found (t, more, last) folds some
