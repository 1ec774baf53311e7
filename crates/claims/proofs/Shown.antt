-- The live requests of the ledger and those that the list of calls shows have the same IDs.
use Prim.Native.Nat.{ℕ}
use mathlib.Core.List.{List, [], ◌∷◌, map}
use mathlib.Core.Path.{◌≡◌, refl, sym, ◌∙◌, ap}
use native.Mathlib.Omega.{arith}
use lib.ListN.{length}
use Rattle.ledger.specs.Lists.{All}
use Rattle.ledger.specs.Parts.{Request, Ledger}
use Rattle.ledger.specs.Calls.{Call}
use Rattle.ledger.specs.Runs.{Entry, Run, then, run}
use Rattle.claims.specs.Trace.{Asked}
use Rattle.claims.specs.Clauses as clauses
use Rattle.claims.specs.Clauses.{DistinctIds}
use Rattle.claims.proofs.Views.{View, refuses, accepts, view}
use Rattle.claims.proofs.Fine.{Sound, Distinct}
use Rattle.claims.proofs.Belonging.{asked_before}
use Rattle.claims.proofs.Owners.{Own, Owners, not_live}

same_id : {h : List Entry} {a : Asked} {q : Request} → Own h a q → a.id ≡ q.id
same_id {h} {a} {q} own = (asked_before q.id h own.last).named

pub same_ids : (h : List Entry) (live : List Asked) (qs : List Request) → Owners h live qs
    → map (λ q. q.id) qs ≡ map (λ a. a.id) live
same_ids h [] [] own = refl
same_ids h [] (q ∷ qs) own = absurd own
same_ids h (a ∷ live) [] own = absurd own
same_ids h (a ∷ live) (q ∷ qs) own = rw (same_id own.0, same_ids h live qs own.1)

pub same_length : (h : List Entry) (live : List Asked) (qs : List Request) → Owners h live qs → length live ≡ length qs
same_length h [] [] own = refl
same_length h [] (q ∷ qs) own = absurd own
same_length h (a ∷ live) [] own = absurd own
same_length h (a ∷ live) (q ∷ qs) own = let rest = same_length h live qs own.1 in omega arith

pub all_unreserved : (r t : ℕ) (h : List Entry) (live : List Asked) (qs : List Request) → All (Sound r t) qs → Owners h live qs
    → All (clauses.Unreserved r) live
all_unreserved r t h [] [] sound own = tt
all_unreserved r t h [] (q ∷ qs) sound own = absurd own
all_unreserved r t h (a ∷ live) [] sound own = absurd own
all_unreserved r t h (a ∷ live) (q ∷ qs) sound own =
    let id = same_id own.0 in
    let above = sound.0.unreserved.above in
    let within = sound.0.unreserved.within in
    ((omega arith, omega arith), all_unreserved r t h live qs sound.1 own.1)

apart : (h : List Entry) (id : ℕ) (live : List Asked) (qs : List Request) → All (λ q. q.id ≡ id → ⊥) qs → Owners h live qs
    → All (λ a. a.id ≡ id → ⊥) live
apart h id [] [] others own = tt
apart h id [] (q ∷ qs) others own = absurd own
apart h id (a ∷ live) [] others own = absurd own
apart h id (a ∷ live) (q ∷ qs) others own =
    ((λ same. others.0 (sym (same_id own.0) ∙ same)), apart h id live qs others.1 own.1)

pub all_distinct : (h : List Entry) (live : List Asked) (qs : List Request) → Distinct qs → Owners h live qs → DistinctIds live
all_distinct h [] [] distinct own = tt
all_distinct h [] (q ∷ qs) distinct own = absurd own
all_distinct h (a ∷ live) [] distinct own = absurd own
all_distinct h (a ∷ live) (q ∷ qs) distinct own = (
  rw (same_id own.0) (apart h q.id live qs (not_live q.id qs distinct.0) own.1),
  all_distinct h live qs
      distinct.1 own.1,
)

-- R stays
pub reserved_stays : (limit : ℕ) (s : Run) (cs : List Call) → (run limit s cs).ledger.reserved ≡ s.ledger.reserved
unfolding run
reserved_stays limit s [] = refl
reserved_stays limit s (c ∷ cs) = reserved_stays limit (then limit s c) cs ∙ once (view limit s.ledger c)
  where
    once : {d : _} → View limit s.ledger c d → d.next.reserved ≡ s.ledger.reserved
    once (refuses n number buffers same) = ap (λ (l : Ledger). l.reserved) same
    once (accepts go_on accepted keeps change) = keeps.reserved
