-- The table of the IDs seen: setting the bit of an ID makes the table hold that ID, and leaves what it holds of every other.
use Prim.Native.Nat.{ℕ, suc, ◌+◌, ◌-◌, ◌*◌, ◌/◌, ◌%◌, ◌^◌, ◌<◌, max}
use mathlib.Core.Bool.{Bool, true, false, true≢false, ◌||◌}
use mathlib.Core.List.{List, [], ◌∷◌}
use mathlib.Core.Logic.{◌≢◌}
use mathlib.Core.Path.{◌≡◌, refl, sym, ap, subst, ◌∙◌}
use native.Mathlib.Nat.{one-mul}
use native.Mathlib.Omega.{arith}
use lib.Bits.{bit_or, or_step, or_shr, shifted_even}
use lib.Dec.{eqb, leb, ltb}
use lib.ListN.{length, get_or, set, replicate, get_or-replicate}
use lib.Pow.{pow-lt, pow-add, shl-shr, shr_lt, shr_le}
use lib.Seq.{get_or-set_same, get_or-set_other}
use borrow.Author.Tests.{eqb-true, eqb-false, ltb-true, ltb-false}
use Rattle.audit.specs.Audit.{is_among, is_unsound}
use Rattle.audit.specs.Code.{bits, words, word_of, has_seen, with_seen, Holds, Judged}

-- bit j of a word
abbrev bit : ℕ → ℕ → ℕ
bit word j = word / 2 ^ j % 2

-- ---- the bits of 2 ^ k
bit_same : (k : ℕ) → bit (2 ^ k) k ≡ 1
bit_same k = ap (λ (n : ℕ). n / 2 ^ k % 2) (sym (one-mul (2 ^ k))) ∙ ap (λ (n : ℕ). n % 2) (shl-shr 1 k)

bit_below : (j d : ℕ) → bit (2 ^ (suc d + j)) j ≡ 0
bit_below j d =
    ap (λ (n : ℕ). n / 2 ^ j % 2) (pow-add 2 (suc d) j) ∙ ap (λ (n : ℕ). n % 2) (shl-shr (2 ^ suc d) j)
    ∙ ap (λ (n : ℕ). n % 2) (sym (one-mul (2 ^ suc d))) ∙ shifted_even 1 d

bit_above : (k j : ℕ) → k < j → bit (2 ^ k) j ≡ 0
bit_above k j less =
    let sum : j ≡ 0 + j = omega arith in
    let small = shr_lt 0 j (subst (λ (n : ℕ). 2 ^ k < 2 ^ n) sum (pow-lt less)) in
    omega arith

bit_other : (k j : ℕ) → j ≢ k → bit (2 ^ k) j ≡ 0
bit_other k j apart = by_order (ltb k j) refl
  where
    by_order : (t : Bool) → ltb k j ≡ t → bit (2 ^ k) j ≡ 0
    by_order true e = bit_above k j (ltb-true k j e)
    by_order false e =
        let most = ltb-false k j e in
        let less : j < k = omega arith in
        let sum : suc (k - suc j) + j ≡ k = omega arith in
        subst (λ (n : ℕ). bit (2 ^ n) j ≡ 0) sum (bit_below j (k - suc j))

-- ---- the bits of a word with one set
or_bit : (a b j : ℕ) → bit (bit_or a b) j ≡ max (bit a j) (bit b j)
or_bit a b j =
    let s = or_step (a / 2 ^ j) (b / 2 ^ j) in
    ap (λ (n : ℕ). n % 2) (or_shr a b j) ∙ omega arith

or_same : (word k : ℕ) → bit (bit_or word (2 ^ k)) k ≡ 1
or_same word k = let o = or_bit word (2 ^ k) k in let s = bit_same k in omega arith

or_other : (word k j : ℕ) → j ≢ k → bit (bit_or word (2 ^ k)) j ≡ bit word j
or_other word k j apart = let o = or_bit word (2 ^ k) j in let s = bit_other k j apart in omega arith

-- ---- the table
module _ (table : List ℕ) (id : ℕ) (inside : id / bits < length table) where
  seen_same : has_seen (with_seen table id) id ≡ true
  unfolding has_seen with_seen
  seen_same =
      ap (λ (word : ℕ). eqb (bit word (id % bits)) 1) (get_or-set_same table (id / bits) _ 0 inside)
      ∙ ap (λ (n : ℕ). eqb n 1) (or_same (word_of table id) (id % bits))

  seen_other : (other : ℕ) → other ≢ id → has_seen (with_seen table id) other ≡ has_seen table other
  unfolding has_seen with_seen
  seen_other other apart = by_place (eqb (other / bits) (id / bits)) refl
    where
      by_place : (t : Bool) → eqb (other / bits) (id / bits) ≡ t
          → eqb (bit (word_of (set table (id / bits) (bit_or (word_of table id) (2 ^ (id % bits)))) other) (other % bits)) 1 ≡ eqb (bit (word_of table other) (other % bits)) 1
      by_place true e =
          let one : other / bits ≡ id / bits = eqb-true (other / bits) (id / bits) e in
          let differ : other % bits ≢ id % bits = λ same. apart (omega arith) in
          ap (λ (place : ℕ). eqb (bit (get_or (set table (id / bits) (bit_or (word_of table id) (2 ^ (id % bits)))) place 0) (other % bits)) 1) one
          ∙ ap (λ (word : ℕ). eqb (bit word (other % bits)) 1) (get_or-set_same table (id / bits) _ 0 inside)
          ∙ ap (λ (n : ℕ). eqb n 1) (or_other (word_of table id) (id % bits) (other % bits) differ)
          ∙ ap (λ (place : ℕ). eqb (bit (get_or table place 0) (other % bits)) 1) (sym one)
      by_place false e =
          ap (λ (word : ℕ). eqb (bit word (other % bits)) 1) (get_or-set_other table (id / bits) (other / bits) _ 0 (eqb-false (other / bits) (id / bits) e))

-- a new table holds no ID
pub holds_none : Holds (replicate words 0) []
unfolding has_seen is_among
holds_none id small =
    let inside : id / bits < words = omega arith in
    let least = shr_le 0 (id % bits) in
    let zero : 0 / 2 ^ (id % bits) ≡ 0 = omega arith in
    ap (λ (word : ℕ). eqb (bit word (id % bits)) 1) (get_or-replicate words (id / bits) 0 0 inside) ∙ ap (λ (n : ℕ). eqb (n % 2) 1) zero

-- a table with an ID marked holds it, beside those held before
pub holds_marked : (table earlier : List ℕ) (id : ℕ) → length table ≡ words → id < words * bits → Holds table earlier → Holds (with_seen table id) (id ∷ earlier)
unfolding is_among
holds_marked table earlier id all small held other less = by_id (eqb other id) refl
  where
    inside : id / bits < length table
    inside = omega arith

    by_id : (t : Bool) → eqb other id ≡ t → has_seen (with_seen table id) other ≡ (t || is_among other earlier)
    by_id true e = ap (has_seen (with_seen table id)) (eqb-true other id e) ∙ seen_same table id inside
    by_id false e = seen_other table id inside other (eqb-false other id e) ∙ held other less

-- ---- the promise of a step
-- one of two tests holds: so does one of three
either : (a b c : Bool) → a || b ≡ true → true ≡ (a || (b || c))
either true b c e = refl
either false true c e = refl
either false false c e = absurd (true≢false (sym e))

-- neither does: the third decides
neither : (a b c : Bool) → a || b ≡ false → c ≡ (a || (b || c))
neither true b c e = absurd (true≢false e)
neither false true c e = absurd (true≢false e)
neither false false c e = refl

module _ (r id : ℕ) (table : List ℕ) where
  -- an ID that is 0 or at most R is unsound, whatever the table holds
  pub judged_reserved : eqb id 0 || leb id r ≡ true → Judged r id table table true
  unfolding is_unsound
  judged_reserved e = record {
    leaves = rw e refl;
    judged = λ earlier held. either (eqb id 0) (leb id r) (is_among id earlier) e;
    marked = λ earlier held sound. absurd (true≢false sound);
  }

  -- another one is unsound exactly where the table holds it, and is marked
  pub judged_marked : (after : List ℕ) (answer : Bool) → eqb id 0 || leb id r ≡ false → length table ≡ words → id < words * bits → answer ≡ has_seen table id → after ≡ with_seen table id
      → Judged r id table after answer
  unfolding is_unsound
  judged_marked after answer e all small said kept = record {
    leaves = rw e kept;
    judged = λ earlier held. said ∙ held id small ∙ neither (eqb id 0) (leb id r) (is_among id earlier) e;
    marked = λ earlier held sound. subst (λ (t : List ℕ). Holds t (id ∷ earlier)) (sym kept) (holds_marked table earlier id all small held);
  }
