-- What the decimal digits of a script say (docs/SESSION-SCRIPT.md), as ASCII.
use Rattle.std.specs.Prelude.{ℕ, ◌+◌, ◌-◌, ◌*◌, List, [], ◌∷◌}

-- the value of decimal digits, the first one the highest, behind digits of this value
unfoldable pub value_from : ℕ → List ℕ → ℕ
value_from v [] = v
value_from v (d ∷ s) = value_from (v * 10 + (d - 48)) s
