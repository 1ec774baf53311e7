-- What the hexadecimal digits of a script say (docs/SESSION-SCRIPT.md), as ASCII.
use Rattle.std.specs.Prelude.{ℕ, ◌+◌, ◌-◌, ◌*◌, cond as if, List, [], ◌∷◌, leb}

-- the value of a lowercase hexadecimal digit
unfoldable pub hex_value : ℕ → ℕ
hex_value d = if (leb d 57) (d - 48) (d - 87)

-- the bytes of pairs of hexadecimal digits, the first of each pair the higher
unfoldable pub bytes_of : List ℕ → List ℕ
bytes_of [] = []
bytes_of (h ∷ []) = []
bytes_of (h ∷ l ∷ s) = (hex_value h * 16 + hex_value l) ∷ bytes_of s
