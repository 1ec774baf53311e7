-- The decimal digits of a script, one after the other.
use Prim.Native.Nat.{ℕ, ◌+◌, ◌-◌, ◌*◌, ◌≤◌, ◌<◌}
use mathlib.Core.List.{List}
use mathlib.Core.Path.{◌≡◌}
use lib.ListN.{length, get_or, drop, drop_of_length-le}
use Rattle.std.proofs.Common.{add-one, drop-cons}
use Rattle.script.specs.Reading.{value_from}

-- a digit read, as the invariant of the loop over a number
pub value_step : (v next i : ℕ) (all : List ℕ) → i < length all → next ≡ v * 10 + (get_or all i 0 - 48)
    → value_from v (drop i all) ≡ value_from 0 all → value_from next (drop (i + 1) all) ≡ value_from 0 all
unfolding value_from
value_step v next i all within is inv = rw (add-one, is) (rw (drop-cons all i 0 within) at inv)

-- no more
pub value_end : (v i : ℕ) (all : List ℕ) → length all ≤ i → value_from v (drop i all) ≡ value_from 0 all → v ≡ value_from 0 all
unfolding value_from
value_end v i all none inv = rw (drop_of_length-le all {i = i} none) at inv
