-- `byte_slices::find` meets its contract: no byte before the place that the search answers passes its test.
use Rattle.std.proofs.Common.{rules, tests, arith, ℕ, ◌≡◌, ◌≤◌, ◌<◌, ◌+◌, ◌-◌, Bool, true, false, not, cond, List, Option, Some, None, length, take, drop, get_or, refl, ap, ◌∙◌}
use lib.Dec.{ltb, eqb}
use lib.ListN.{length-take, length-drop}
use borrow.Author.Tests.{ltb-false}
use Rattle.std.specs.List.{prefix_len}
use Rattle.std.proofs.lemmas.List.{get_or-take, get_or-drop}
use Rattle.std.proofs.lemmas.List.Sums.{prefix_len_passes, prefix_len-le-length}
use Rattle.std.proofs.lemmas.Iterator.{YieldsList-from_slice}
use Rattle.std.proofs.lemmas.Iterator.Search.{position_from_yields_List}
use Rattle.byte_slices.proofs.find.Goals as goal

-- the answer is not behind the first that passes
reaches : (n len from to result : ℕ) (r : Option ℕ) (b : Bool) → ltb n len ≡ b → r ≡ cond b (Some n) None → to ≡ from + len
    → (r ≡ None → result ≡ to) → ((i : ℕ) → r ≡ Some i → result ≡ from + i) → result ≤ from + n
reaches n len from to result r true test e end none some = omega (arith, some n e)
reaches n len from to result r false test e end none some = omega (arith, none e, ltb-false n len test)

-- a byte of the part, where it stands in all
in_all : (from to k : ℕ) (bytes : List ℕ) → from ≤ k → k < to → get_or (take (to - from) (drop from bytes)) (k - from) 0 ≡ get_or bytes k 0
in_all from to k bytes low high =
    get_or-take (to - from) (drop from bytes) (k - from) 0 (omega arith)
    ∙ get_or-drop from bytes (k - from) 0
    ∙ ap (λ (i : ℕ). get_or bytes i 0) (omega arith)

differs : (x y : ℕ) → not (eqb x y) ≡ true → x ≡ y → ⊥
differs x y h e = search (rules, tests)

pub returns-clause-before : goal.returns-clause-before
returns-clause-before c k low high same =
    let a = c.args in
    let part = take (a.to - a.from) (drop a.from a.bytes.now) in
    let misses : ℕ → Bool = λ x. not (eqb x a.byte) in
    let first = prefix_len misses part in
    let found = position_from_yields_List (λ (x : ℕ). eqb x a.byte) _ _ c.position-found.result c.position-found.ensures.ran
    (YieldsList-from_slice _ c.iter.ensures.rest) (λ x b q k. search (rules, tests)) in
    let size : a.to ≡ a.from + length part = simp (length-take, length-drop) (omega arith) in
    let near = reaches first (length part) a.from a.to c.map_or.result c.position-found.result (ltb first (length part)) refl found size
    (λ e. rw e at c.map_or.ensures) (λ i e. let said = (rw e at c.map_or.ensures) in search rules) in
    differs (get_or part (k - a.from) 0) a.byte (prefix_len_passes misses part (k - a.from) 0 (omega (arith, near)))
    (in_all a.from a.to k a.bytes.now low (omega (arith, near, size, prefix_len-le-length misses part)) ∙ same)
