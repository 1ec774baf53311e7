-- Words, numbers and bytes as text (docs/SESSION-SCRIPT.md), in ASCII.
use Prim.Native.Char.{code}
use Rattle.std.specs.Prelude.{ℕ, zero, suc, ◌+◌, ◌*◌, ◌/◌, ◌%◌, ◌≤◌, cond as if, List, [], ◌∷◌, ◌++◌, ◌≡◌, ltb, length, take}
use Prim.Native.String.{String, [] as none, ◌∷◌ as cons}
use Rattle.io.specs.Digits.{hex_digit_ascii}

-- a text as the list of its characters' codes
abbrev pub ascii : String → List ℕ
ascii none = []
ascii (cons c s) = code c ∷ ascii s

-- the most digits of a number of 64 bits
abbrev pub digits_max : ℕ
digits_max = 20

-- a number in decimal, where it has at most so many digits
unfoldable pub decimal_in : ℕ → ℕ → List ℕ
decimal_in zero n = []
decimal_in (suc k) n = if (ltb n 10) (hex_digit_ascii n ∷ []) (decimal_in k (n / 10) ++ (hex_digit_ascii (n % 10) ∷ []))

-- a number of 64 bits in decimal, without leading zeros
abbrev pub decimal : ℕ → List ℕ
decimal n = decimal_in digits_max n

-- a number below this has at most three digits
abbrev pub short_limit : ℕ
short_limit = 1000

-- a number behind a word
abbrev pub named : List ℕ → ℕ → List ℕ
named word n = word ++ decimal n

-- a byte as a pair of lowercase hexadecimal digits
abbrev pub pair : ℕ → List ℕ
pair b = hex_digit_ascii (b / 16) ∷ hex_digit_ascii (b % 16) ∷ []

-- bytes as such pairs
unfoldable pub pairs : List ℕ → List ℕ
pairs [] = []
pairs (b ∷ s) = pair b ++ pairs s

-- the same, `-` for none
unfoldable pub shown_as : List ℕ → List ℕ
shown_as [] = ascii "-"
shown_as (b ∷ s) = pairs (b ∷ s)

-- room for these, and for a number behind a space
abbrev pub spaced_room : ℕ
spaced_room = 1 + digits_max

abbrev pub pairs_room : List ℕ → ℕ
pairs_room s = 2 * length s

-- how many bytes are shown at once
abbrev pub part_length : ℕ
part_length = 64

-- a text was put behind the one that stood there, within a room
pub record Puts (room : ℕ) (text entry exit : List ℕ) : Type 0 where
  pub within : length exit ≤ length entry + room
  pub reads : exit ≡ entry ++ text

-- a text was put behind the first `at` bytes of a buffer, up to `end`, within a room
pub record PutsBehind (room at : ℕ) (text entry exit : List ℕ) (end : ℕ) : Type 0 where
  pub within : end ≤ at + room
  pub reads : take end exit ≡ take at entry ++ text
