-- The audit as a search over the positions of a row: the test of an ID beside the earlier ones says whether its position is unsound,
-- and the walk of the definition finds the first position at which the test holds.
use Prim.Native.Nat.{ℕ, zero, suc, ◌+◌, ◌<◌}
use mathlib.Core.Bool.{Bool, true, false, true≢false, ◌||◌, or-true, cond as if}
use mathlib.Core.List.{List, [], ◌∷◌, ◌++◌, append-nil}
use Rattle.std.specs.Prelude.{Option, None, Some}
use mathlib.Core.Path.{◌≡◌, refl, sym, ap, ◌∙◌}
use native.Mathlib.Omega.{arith}
use lib.Dec.{eqb, leb, ltb}
use lib.ListN.{length, take}
use borrow.Author.Tests.{eqb-true, leb-true, leb-false, ltb-true, ltb-false, eq-eqb, le-leb}
use Rattle.audit.specs.Audit.{is_among, is_unsound, first_from, audit}
use Rattle.audit.specs.Rows.{id_at, Unsound, is_zero, is_reserved, is_repeated, IsFirst, IsAnswer, first_position, no_position, Sound}

-- ---- the search
-- the first of so many positions at which a test holds, counted from a number on, or that there is none
data Search (test : ℕ → Bool) (count from : ℕ) : Option ℕ → Type 0 where
  hit : (i n : ℕ) → n ≡ from + i → i < count → test i ≡ true → ((j : ℕ) → j < i → test j ≡ false) → Search test count from (Some n)
  miss : ((j : ℕ) → j < count → test j ≡ false) → Search test count from None

-- with one position more in front, at which the test does not hold
later : {test rest : ℕ → Bool} {count from : ℕ} {o : Option ℕ} → test 0 ≡ false → ((i : ℕ) → rest i ≡ test (suc i))
    → Search rest count (suc from) o → Search test (suc count) from o
later {test} {rest} {count} {from} sound same (hit i n place less found before) =
    hit (suc i) n (omega arith) (omega arith) (sym (same i) ∙ found) earlier
  where
    earlier : (j : ℕ) → j < suc i → test j ≡ false
    earlier zero h = sound
    earlier (suc j) h = sym (same j) ∙ before j (omega arith)
later {test} {rest} {count} {from} sound same (miss nowhere) = miss all
  where
    all : (j : ℕ) → j < suc count → test j ≡ false
    all zero h = sound
    all (suc j) h = sym (same j) ∙ nowhere j (omega arith)

-- the test of the ID at a position of a part of a row, with the IDs earlier than the part
abbrev test_in : (r : ℕ) (earlier ids : List ℕ) (i : ℕ) → Bool
test_in r earlier ids i = is_unsound r (take i ids ++ earlier) (id_at ids i)

-- it does not matter in which order the earlier ones stand
swap : (a b c : Bool) → a || (b || c) ≡ b || (a || c)
swap true true c = refl
swap true false c = refl
swap false b c = refl

among_middle : (id other : ℕ) (before after : List ℕ) → is_among id (before ++ other ∷ after) ≡ eqb id other || is_among id (before ++ after)
unfolding is_among
among_middle id other [] after = refl
among_middle id other (one ∷ before) after =
    ap (λ (t : Bool). eqb id one || t) (among_middle id other before after)
    ∙ swap (eqb id one) (eqb id other) (is_among id (before ++ after))

test_next : (r id : ℕ) (earlier ids : List ℕ) (i : ℕ) → test_in r (id ∷ earlier) ids i ≡ test_in r earlier (id ∷ ids) (suc i)
unfolding is_unsound is_among
test_next r id earlier ids i =
    ap (λ (t : Bool). eqb (id_at ids i) 0 || (leb (id_at ids i) r || t)) (among_middle (id_at ids i) id (take i ids) earlier)

-- the walk of the definition is that search
searched : (r : ℕ) (ids earlier : List ℕ) (from : ℕ) → Search (test_in r earlier ids) (length ids) from (first_from r earlier from ids)
unfolding first_from
searched r [] earlier from = miss (λ j less. absurd (omega arith))
searched r (id ∷ ids) earlier from = by_test (is_unsound r earlier id) refl (searched r ids (id ∷ earlier) (suc from))
  where
    by_test : (t : Bool) → is_unsound r earlier id ≡ t
        → Search (test_in r (id ∷ earlier) ids) (length ids) (suc from) (first_from r (id ∷ earlier) (suc from) ids)
        → Search (test_in r earlier (id ∷ ids)) (suc (length ids)) from (if t (Some from) (first_from r (id ∷ earlier) (suc from) ids))
    by_test true e rest = hit 0 from (omega arith) (omega arith) e (λ j less. absurd (omega arith))
    by_test false e rest = later e (test_next r id earlier ids) rest

-- ---- the test
-- an ID is among the earlier ones where it stands at an earlier position
among_at : (id i : ℕ) (ids : List ℕ) → is_among id (take i ids) ≡ true → (j : ℕ) × (j < i) × (id_at ids j ≡ id)
unfolding is_among
among_at id zero ids e = absurd (true≢false (sym e))
among_at id (suc i) [] e = absurd (true≢false (sym e))
among_at id (suc i) (other ∷ ids) e = by_test (eqb id other) refl e (among_at id i ids)
  where
    by_test : (t : Bool) → eqb id other ≡ t → t || is_among id (take i ids) ≡ true
        → (is_among id (take i ids) ≡ true → (j : ℕ) × (j < i) × (id_at ids j ≡ id))
        → (j : ℕ) × (j < suc i) × (id_at (other ∷ ids) j ≡ id)
    by_test true same e rest = (0, omega arith, sym (eqb-true id other same))
    by_test false differ e rest = let (j, less, same) = rest e in (suc j, omega arith, same)

at_among : (id i : ℕ) (ids : List ℕ) (j : ℕ) → i < length ids → j < i → id_at ids j ≡ id → is_among id (take i ids) ≡ true
unfolding is_among
at_among id zero ids j inside less same = absurd (omega arith)
at_among id (suc i) [] j inside less same = absurd (omega arith)
at_among id (suc i) (other ∷ ids) zero inside less same = rw (eq-eqb id other (sym same))
at_among id (suc i) (other ∷ ids) (suc j) inside less same =
    rw (at_among id i ids j (omega arith) (omega arith) same, or-true (eqb id other))

module _ (r : ℕ) (ids : List ℕ) where
  -- a position is unsound where the test of its ID holds
  from_test : (i : ℕ) → is_unsound r (take i ids) (id_at ids i) ≡ true → Unsound r ids i
  unfolding is_unsound
  from_test i e = by_tests (eqb (id_at ids i) 0) (leb (id_at ids i) r) refl refl e
    where
      by_tests : (a b : Bool) → eqb (id_at ids i) 0 ≡ a → leb (id_at ids i) r ≡ b → a || (b || is_among (id_at ids i) (take i ids)) ≡ true
          → Unsound r ids i
      by_tests true b zero-id low e = is_zero (eqb-true (id_at ids i) 0 zero-id)
      by_tests false true zero-id low e = is_reserved (leb-true (id_at ids i) r low)
      by_tests false false zero-id low e = let (j, less, same) = among_at (id_at ids i) i ids e in is_repeated j less same

  to_test : (i : ℕ) → i < length ids → Unsound r ids i → is_unsound r (take i ids) (id_at ids i) ≡ true
  unfolding is_unsound
  to_test i inside (is_zero e) = rw (eq-eqb (id_at ids i) 0 e)
  to_test i inside (is_reserved most) = rw (le-leb (id_at ids i) r most, or-true (eqb (id_at ids i) 0))
  to_test i inside (is_repeated j less same) =
      rw (at_among (id_at ids i) i ids j inside less same, or-true (leb (id_at ids i) r), or-true (eqb (id_at ids i) 0))

  -- the test with nothing earlier than the row
  whole : (i : ℕ) → test_in r [] ids i ≡ is_unsound r (take i ids) (id_at ids i)
  whole i = ap (λ (earlier : List ℕ). is_unsound r earlier (id_at ids i)) (append-nil (take i ids))

  sound : (i : ℕ) → i < length ids → test_in r [] ids i ≡ false → Unsound r ids i → ⊥
  sound i inside e unsound = true≢false (sym (whole i ∙ to_test i inside unsound) ∙ e)

  -- what the search finds is the answer
  answer_of : {o : Option ℕ} → Search (test_in r [] ids) (length ids) 0 o → IsAnswer r ids o
  answer_of (hit i n place less found before) =
      let same : n ≡ i = omega arith in
      rw same (first_position i (record { within = less; unsound = from_test i (sym (whole i) ∙ found); before = λ j under. sound j (omega arith) (before j under) }))
  answer_of (miss nowhere) = no_position (λ i inside. sound i inside (nowhere i inside))

  -- no two positions are first
  same_position : (i j : ℕ) → IsFirst r ids i → IsFirst r ids j → i ≡ j
  same_position i j f g = by_order (ltb i j) (ltb j i) refl refl
    where
      by_order : (s t : Bool) → ltb i j ≡ s → ltb j i ≡ t → i ≡ j
      by_order true t less e = absurd (g.before i (ltb-true i j less) f.unsound)
      by_order false true e less = absurd (f.before j (ltb-true j i less) g.unsound)
      by_order false false d e = let most = ltb-false i j d in let least = ltb-false j i e in omega arith

  -- no two answers are right
  pub same_answer : {o p : Option ℕ} → IsAnswer r ids o → IsAnswer r ids p → o ≡ p
  same_answer (first_position i f) (first_position j g) = ap Some (same_position i j f g)
  same_answer (first_position i f) (no_position h) = absurd (h i f.within f.unsound)
  same_answer (no_position h) (first_position j g) = absurd (h j g.within g.unsound)
  same_answer (no_position h) (no_position k) = refl

  -- an answer that is a position is the first unsound one
  pub position_of : {i : ℕ} → IsAnswer r ids (Some i) → IsFirst r ids i
  position_of (first_position i f) = f

  -- an answer that there is none tells that the row is sound
  pub sound_of : IsAnswer r ids None → Sound r ids
  sound_of (no_position h) = record { unreserved = above; distinct = λ i j less inside same. h i inside (is_repeated j less same) }
    where
      above : (i : ℕ) → i < length ids → r < id_at ids i
      above i inside = by_test (leb (id_at ids i) r) refl
        where
          by_test : (t : Bool) → leb (id_at ids i) r ≡ t → r < id_at ids i
          by_test true e = absurd (h i inside (is_reserved (leb-true (id_at ids i) r e)))
          by_test false e = leb-false (id_at ids i) r e

  -- and of a sound row that is the answer
  pub answer_none : Sound r ids → IsAnswer r ids None
  answer_none s = no_position none_unsound
    where
      none_unsound : (i : ℕ) → i < length ids → Unsound r ids i → ⊥
      none_unsound i inside (is_zero e) = let more = s.unreserved i inside in omega arith
      none_unsound i inside (is_reserved most) = let more = s.unreserved i inside in omega arith
      none_unsound i inside (is_repeated j less same) = s.distinct i j less inside same

pub answers : (r : ℕ) (ids : List ℕ) → IsAnswer r ids (audit r ids)
answers r ids = answer_of r ids (searched r ids [] 0)
