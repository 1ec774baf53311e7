-- Laws of the smallest number that passes a test.
use Prim.Native.Nat.{ℕ, zero, suc, ◌+◌, ◌≤◌, ◌<◌}
use mathlib.Core.Bool.{Bool, true, false}
use mathlib.Core.Path.{◌≡◌, refl, ◌∙◌}
use native.Mathlib.Nat.{add-zero}
use native.Mathlib.Omega.{arith}
use Rattle.line.specs.Receiving.{smallest}

next : (k j : ℕ) → k + suc j ≡ suc k + j
next k j = omega arith

-- it is m numbers on, where none before passes, and that one does or is the one after all
pub smallest_at : (test : ℕ → Bool) (k n m : ℕ) → m ≤ n → (m < n → test (k + m) ≡ true)
    → ((j : ℕ) → j < m → test (k + j) ≡ false) → smallest test k n ≡ k + m
unfolding smallest
smallest_at test k zero m within here none = omega arith
smallest_at test k (suc n) zero within here none =
    let first : test k ≡ true = rw add-zero at (here (omega arith)) in rw first (omega arith)
smallest_at test k (suc n) (suc m) within here none =
    let first : test k ≡ false = rw add-zero at (none 0 (omega arith)) in
    let rest = smallest_at test (suc k) n m (omega arith) (λ h. rw (next k m) at (here (omega arith)))
    (λ j h. rw (next k j) at (none (suc j) (omega arith))) in
    rw first (rest ∙ omega arith)

-- tests that agree pass first at the same number
pub smallest_same : (f g : ℕ → Bool) (k n : ℕ) → ((j : ℕ) → f j ≡ g j) → smallest f k n ≡ smallest g k n
unfolding smallest
smallest_same f g k zero h = refl
smallest_same f g k (suc n) h = rw (h k, smallest_same f g (suc k) n h)

-- what it tells: it is within, none before passes, and it passes unless it is the one after all
pub record Smallest (test : ℕ → Bool) (k n : ℕ) : Type 0 where
  pub past : ℕ
  pub at : smallest test k n ≡ k + past
  pub within : past ≤ n
  pub none : (j : ℕ) → j < past → test (k + j) ≡ false
  pub here : past < n → test (k + past) ≡ true

first_none : (test : ℕ → Bool) (k m : ℕ) → test k ≡ false → ((j : ℕ) → j < m → test (suc k + j) ≡ false) → (j : ℕ) → j < suc m
    → test (k + j) ≡ false
first_none test k m first rest zero h = rw add-zero first
first_none test k m first rest (suc j) h = rw (next k j) (rest j (omega arith))

later : (test : ℕ → Bool) (k n : ℕ) (b : Bool) → test k ≡ b → Smallest test (suc k) n → Smallest test k (suc n)
unfolding smallest
later test k n true h s =
    record {
      past = 0;
      at = rw h (omega arith);
      within = omega arith;
      none = λ j l. absurd (omega arith);
      here =
          λ l. rw add-zero h;
    }
later test k n false h s = record {
  past = suc s.past;
  at = rw (h, s.at) (omega arith);
  within = omega (arith, s.within);
  none = first_none test k s.past h s.none;
  here = λ l. rw (next k s.past) (s.here (omega arith));
}

pub told : (test : ℕ → Bool) (k n : ℕ) → Smallest test k n
unfolding smallest
told test k zero =
    record {
      past = 0;
      at = omega arith;
      within = omega arith;
      none = λ j l. absurd (omega arith);
      here = λ l. absurd
          (omega arith);
    }
told test k (suc n) = later test k n (test k) refl (told test (suc k) n)
