-- Proofs by the value of a test.
use mathlib.Core.Bool.{Bool, true, false}
use mathlib.Core.Path.{◌≡◌, refl}

-- a statement about a test holds if it holds for each value, given that the test has it
pub by_test : (P : Bool → Type 0) (b : Bool) → (b ≡ true → P true) → (b ≡ false → P false) → P b
by_test P true yes-case no-case = yes-case refl
by_test P false yes-case no-case = no-case refl
