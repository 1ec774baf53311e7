-- `script::numbers::value_of` meets its contract. The invariant: the value so far, with the digits left, gives the whole.
use Prim.Native.Nat.{◌≤◌}
use mathlib.Core.Path.{◌≡◌}
use lib.ListN.{drop}
use Rattle.script.specs.Reading.{value_from}
use Rattle.script.proofs.numbers.value_of.Given as goal

abbrev pub invariant-loop-byte : goal.invariant-loop-byte
invariant-loop-byte l = (l.value ≤ l.most) × (value_from l.value (drop l.byte-index l.digits) ≡ value_from 0 l.digits)
