-- A walk over the IDs of a row, for whoever reads them: what is known before it, after each step, where it finds an ID and at its end.
use Prim.Native.Nat.{ℕ, suc, ◌+◌}
use mathlib.Core.Bool.{Bool, true, false, cond as if}
use mathlib.Core.List.{List, [], ◌∷◌}
use Rattle.std.specs.Prelude.{None, Some}
use mathlib.Core.Path.{◌≡◌, refl, sym, ap, ◌∙◌}
use native.Mathlib.Omega.{arith}
use lib.ListN.{replicate}
use Rattle.audit.specs.Audit.{first_from, audit}
use Rattle.audit.specs.Code.{words, Holds, Judged}
use Rattle.audit.proofs.Tables.{holds_none}

-- before position i, where the IDs in `rest` are left: a table holds the IDs earlier in the row, and the audit of the rest is that of the row
pub record Walked (r : ℕ) (ids : List ℕ) (table : List ℕ) (i : ℕ) (rest : List ℕ) : Type 0 where
  pub earlier : List ℕ
  pub held : Holds table earlier
  pub left : first_from r earlier i rest ≡ audit r ids

pub walk_starts : (r : ℕ) (ids : List ℕ) → Walked r ids (replicate words 0) 0 ids
walk_starts r ids = record { earlier = []; held = holds_none; left = refl }

pub walk_ends : (r : ℕ) (ids table : List ℕ) (i : ℕ) → Walked r ids table i [] → None ≡ audit r ids
unfolding first_from
walk_ends r ids table i walked = walked.left

module _ (r : ℕ) (ids table : List ℕ) (i id : ℕ) (rest : List ℕ) (walked : Walked r ids table i (id ∷ rest)) (after : List ℕ) (answer : Bool) (step : Judged r id table after answer) where
  -- the ID in turn decides, by the step's answer
  turn : if answer (Some i) (first_from r (id ∷ walked.earlier) (suc i) rest) ≡ audit r ids
  unfolding first_from
  turn =
      ap (λ (t : Bool). if t (Some i) (first_from r (id ∷ walked.earlier) (suc i) rest)) (step.judged walked.earlier walked.held)
      ∙ walked.left

  pub walk_finds : answer ≡ true → Some i ≡ audit r ids
  walk_finds unsound =
      ap (λ (t : Bool). if t (Some i) (first_from r (id ∷ walked.earlier) (suc i) rest)) (sym unsound) ∙ turn

  pub walk_goes_on : answer ≡ false → Walked r ids after (i + 1) rest
  walk_goes_on sound =
      let sum : i + 1 ≡ suc i = omega arith in
      record {
        earlier = id ∷ walked.earlier;
        held = step.marked walked.earlier walked.held sound;
        left =
            ap (λ (k : ℕ). first_from r (id ∷ walked.earlier) k rest) sum
            ∙ ap (λ (t : Bool). if t (Some i) (first_from r (id ∷ walked.earlier) (suc i) rest)) (sym sound)
            ∙ turn;
      }
