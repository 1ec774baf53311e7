-- The table's first two lines, tested before a call's own: what they say alone, and before others.
use Prim.Native.Nat.{ℕ}
use mathlib.Core.Bool.{Bool, true, false}
use mathlib.Core.List.{List, [], ◌∷◌}
use mathlib.Core.Option.{none, some}
use mathlib.Core.Path.{◌≡◌, refl}
use native.Mathlib.Omega.{arith}
use lib.Dec.{ltb}
use Rattle.ledger.specs.Refusals.{Line, line, first_of}
use Rattle.endpoint.specs.Malformed.{malformed}
use Rattle.endpoint.specs.declared.Endpoint.{Endpoint}
use Rattle.refusals.specs.Code.{with_endpoint}

-- what a test of a line says
pub first_holds : (n : ℕ) (b : Bool) (rest : List Line) → b ≡ true → first_of (line n b ∷ rest) ≡ some n
unfolding first_of
first_holds n b rest h = rw h

pub first_fails : (n : ℕ) (b : Bool) (rest : List Line) → b ≡ false → first_of (line n b ∷ rest) ≡ first_of rest
unfolding first_of
first_fails n b rest h = rw h

pub no_line : first_of [] ≡ none
unfolding first_of
no_line = refl

-- what is refused by them alone is refused before others
two_first : (m late : Bool) (own : List Line) (n : ℕ) → first_of (line 1 m ∷ line 2 late ∷ []) ≡ some n
    → first_of (line 1 m ∷ line 2 late ∷ own) ≡ some n
unfolding first_of
two_first true late own n h = h
two_first false true own n h = h
two_first false false own n h = let z : ◌≡◌ {A = ℕ} 0 1 = cc in absurd (omega arith)

pub refused_first : (e : Endpoint) (clock : ℕ) (own : List Line) (n : ℕ) → first_of (with_endpoint e clock []) ≡ some n
    → first_of (with_endpoint e clock own) ≡ some n
refused_first e clock own n h = two_first (malformed e) (ltb clock e.clock) own n h

-- and what they let through is up to the others
two_later : (m late : Bool) (own : List Line) → first_of (line 1 m ∷ line 2 late ∷ []) ≡ none
    → first_of (line 1 m ∷ line 2 late ∷ own) ≡ first_of own
unfolding first_of
two_later true late own h = let z : ◌≡◌ {A = ℕ} 0 1 = cc in absurd (omega arith)
two_later false true own h = let z : ◌≡◌ {A = ℕ} 0 1 = cc in absurd (omega arith)
two_later false false own h = refl

pub passed_first : (e : Endpoint) (clock : ℕ) (own : List Line) → first_of (with_endpoint e clock []) ≡ none
    → first_of (with_endpoint e clock own) ≡ first_of own
passed_first e clock own h = two_later (malformed e) (ltb clock e.clock) own h

-- where no line holds, neither of the two does, and the others do not
pub record Passed (own : List Line) (m late : Bool) : Type 0 where
  pub fine : m ≡ false
  pub early : late ≡ false
  pub rest : first_of own ≡ none

two_passed : (m late : Bool) (own : List Line) → first_of (line 1 m ∷ line 2 late ∷ own) ≡ none → Passed own m late
unfolding first_of
two_passed true late own h = let z : ◌≡◌ {A = ℕ} 0 1 = cc in absurd (omega arith)
two_passed false true own h = let z : ◌≡◌ {A = ℕ} 0 1 = cc in absurd (omega arith)
two_passed false false own h = record { fine = refl; early = refl; rest = h }

pub passed : (e : Endpoint) (clock : ℕ) (own : List Line) → first_of (with_endpoint e clock own) ≡ none
    → Passed own (malformed e) (ltb clock e.clock)
passed e clock own h = two_passed (malformed e) (ltb clock e.clock) own h

-- the first of a call's own lines did not hold
pub own_passed : (n : ℕ) (b : Bool) (rest : List Line) → first_of (line n b ∷ rest) ≡ none → (b ≡ false) × (first_of rest ≡ none)
unfolding first_of
own_passed n true rest h = let z : ◌≡◌ {A = ℕ} 0 1 = cc in absurd (omega arith)
own_passed n false rest h = (refl, h)
