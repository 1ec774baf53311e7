-- What the steps inside come to: the table of the IDs seen, and what is promised of one ID beside it. No promise of an audit cites it.
use Rattle.std.specs.Prelude.{ℕ, ◌*◌, ◌/◌, ◌%◌, ◌^◌, ◌<◌, Bool, false, ◌||◌, cond as if, List, ◌∷◌, ◌≡◌, eqb, leb, get_or, set}
use Rattle.std.specs.Int.Bits.{bit_or}
use Rattle.audit.specs.Audit.{is_among, is_unsound}

-- the bits of a word
abbrev pub bits : ℕ
bits = 64

-- the words of a table: a bit for each 16-bit ID
abbrev pub words : ℕ
words = 1024

-- the word that has an ID's bit
abbrev pub word_of : List ℕ → ℕ → ℕ
word_of table id = get_or table (id / bits) 0

-- whether an ID's bit is set
unfoldable pub has_seen : List ℕ → ℕ → Bool
has_seen table id = eqb (word_of table id / 2 ^ (id % bits) % 2) 1

-- the table with an ID's bit set
unfoldable pub with_seen : List ℕ → ℕ → List ℕ
with_seen table id = set table (id / bits) (bit_or (word_of table id) (2 ^ (id % bits)))

-- a table holds the IDs in a list, and no other
abbrev pub Holds : List ℕ → List ℕ → Type 0
Holds table ids = (id : ℕ) → id < words * bits → has_seen table id ≡ is_among id ids

-- the table after a step: as it was where the ID is 0 or at most R, and otherwise with the ID's bit set
abbrev pub left_by : (r id : ℕ) → List ℕ → List ℕ
left_by r id table = if (eqb id 0 || leb id r) table (with_seen table id)

-- The promise of a step: the whole table afterwards; and for whatever IDs the table holds, the answer is that of the definition, and
-- where the ID is sound the table holds it too afterwards.
pub record Judged (r id : ℕ) (table after : List ℕ) (answer : Bool) : Type 0 where
  pub leaves : after ≡ left_by r id table
  pub judged : (earlier : List ℕ) → Holds table earlier → answer ≡ is_unsound r earlier id
  pub marked : (earlier : List ℕ) → Holds table earlier → answer ≡ false → Holds after (id ∷ earlier)
