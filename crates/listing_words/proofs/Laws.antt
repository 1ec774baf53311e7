-- Below 1000, a number in decimal as document 01 has it in a listing is the one that every text has.
use Prim.Native.Nat.{ℕ, ◌/◌, ◌%◌, ◌≤◌, ◌<◌}
use mathlib.Core.Bool.{Bool, true, false}
use mathlib.Core.Path.{◌≡◌, refl}
use native.Mathlib.Omega.{arith}
use lib.Dec.{ltb}
use lib.ListN.{length}
use borrow.Author.Tests.{lt-ltb, le-ltb, ltb-true, ltb-false}
use Rattle.texts.specs.Text as texts
use Rattle.listing_words.specs.Words.{decimal_limit, decimal}

same_by : (n : ℕ) (t u : Bool) → ltb n 10 ≡ t → ltb n 100 ≡ u → n < decimal_limit
    → (texts.decimal n ≡ decimal n) × (length (decimal n) ≤ 3)
unfolding texts.decimal_in decimal
same_by n true u test more below = rw test (refl, omega arith)
same_by n false true test more below =
    let small : n < 100 = ltb-true n 100 more in
    rw (test, more, lt-ltb (n / 10) 10 (omega arith), lt-ltb (n % 10) 10 (omega arith)) (refl, omega arith)
same_by n false false test more below =
    let large : 100 ≤ n = ltb-false n 100 more in
    let hundreds : n / 10 / 10 ≡ n / 100 = omega arith in
    rw (
      test,
      more,
      le-ltb (n / 10) 10 (omega arith),
      hundreds,
      lt-ltb (n / 100) 10 (omega arith),
      lt-ltb (n / 10 % 10) 10 (omega arith),
      lt-ltb (n % 10) 10 (omega arith),
    ) (refl, omega arith)

pub same_decimal : (n : ℕ) → n < decimal_limit → (texts.decimal n ≡ decimal n) × (length (decimal n) ≤ 3)
same_decimal n below = same_by n (ltb n 10) (ltb n 100) refl refl below
