-- Linear functions keep sums without carry. The rule for all forms of shifts: two linear functions that agree on each single bit of a
-- width agree on every number of that width. Whether they agree on the single bits is a test that antt computes. Assumes nothing.
use Prim.Native.Nat.{ℕ, zero, suc, ◌+◌, ◌*◌, ◌/◌, ◌%◌, ◌^◌, ◌<◌}
use mathlib.Core.Bool.{Bool, true, ◌&&◌}
use mathlib.Core.Path.{◌≡◌, sym, ap, ap₂, ◌∙◌, subst}
use native.Mathlib.Nat.{mod-lt}
use native.Mathlib.Omega.{arith}
use lib.Bits.{bit_xor, xor_self, xor_shifted}
use lib.Dec.{T, eqb, eqb→eq}
use lib.Pow.{pow_pos, split, shr_lt}
use mir.Facts.{and_yes}

abbrev pub Linear : (ℕ → ℕ) → Type 0
Linear f = (a b : ℕ) → f (bit_xor a b) ≡ bit_xor (f a) (f b)

at_zero : (f : ℕ → ℕ) → Linear f → f 0 ≡ 0
at_zero f lf = lf 0 0 ∙ xor_self (f 0)

-- the test: do they agree on the k lowest bits, each alone?
abbrev pub agree_on_bits : (ℕ → ℕ) → (ℕ → ℕ) → ℕ → Bool
agree_on_bits f g zero = true
agree_on_bits f g (suc k) = eqb (f (2 ^ k)) (g (2 ^ k)) && agree_on_bits f g k

one_add : (k : ℕ) → 1 + k ≡ suc k
one_add k = omega arith

module _ (f g : ℕ → ℕ) (lf : Linear f) (lg : Linear g) where
  zero_case : (a : ℕ) → a ≡ 0 → f a ≡ g a
  zero_case a e = ap f e ∙ at_zero f lf ∙ sym (at_zero g lg) ∙ ap g (sym e)

  -- the bit k and less than it
  top_case : (k r : ℕ) → r < 2 ^ k → f (2 ^ k) ≡ g (2 ^ k) → f r ≡ g r → f (1 * 2 ^ k + r) ≡ g (1 * 2 ^ k + r)
  top_case k r h p q =
      ap f (sym (xor_shifted 1 k r h)) ∙ lf (1 * 2 ^ k) r
      ∙ ap₂ bit_xor (ap f (omega arith) ∙ p ∙ ap g (omega arith)) q
      ∙ sym (lg (1 * 2 ^ k) r) ∙ ap g (xor_shifted 1 k r h)

  digit_case : (k t r : ℕ) → t < 2 → r < 2 ^ k → f (2 ^ k) ≡ g (2 ^ k) → f r ≡ g r → f (t * 2 ^ k + r) ≡ g (t * 2 ^ k + r)
  digit_case k zero r ht h p q = ap f (omega arith) ∙ q ∙ ap g (omega arith)
  digit_case k (suc zero) r ht h p q = top_case k r h p q
  digit_case k (suc (suc t)) r ht h p q = absurd (omega arith)

  pub agree : (k : ℕ) → T (agree_on_bits f g k) → (a : ℕ) → a < 2 ^ k → f a ≡ g a
  agree zero t a h = zero_case a (omega arith)
  agree (suc k) t a h =
      let tests = and_yes (eqb (f (2 ^ k)) (g (2 ^ k))) (agree_on_bits f g k) t in
      ap f (sym (split a k))
      ∙ digit_case k (a / 2 ^ k) (a % 2 ^ k) (shr_lt 1 k (subst (λ (n : ℕ). a < 2 ^ n) (sym (one_add k)) h)) (mod-lt a (pow_pos k))
      (eqb→eq (f (2 ^ k)) (g (2 ^ k)) tests.0)
      (agree k tests.1 (a % 2 ^ k) (mod-lt a (pow_pos k)))
      ∙ ap g (split a k)
