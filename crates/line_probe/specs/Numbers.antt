-- What the probe answers as numbers, and what it promises.
use Rattle.std.specs.Prelude.{ℕ, Bool, ◌&&◌, cond as if, List, ◌≡◌, eqb, leb, length, take}
use Rattle.message.specs.Items.{damaged_header, forbidden, damaged_payload, message}
use Rattle.line.specs.Receiving.{held_max, Answer, more, item, receive}

-- the rule that decided, the numbers of a message, the bytes taken and the bytes held
pub data Numbers : Type 0 where
  numbers : (rule type seq len taken held : ℕ) → Numbers

-- 0 for *more*, otherwise the number of the rule that decided
abbrev pub numbers_of : Answer → (taken held : ℕ) → Numbers
numbers_of more taken held = numbers 0 0 0 0 taken held
numbers_of (item damaged_header) taken held = numbers 2 0 0 0 taken held
numbers_of (item forbidden) taken held = numbers 3 0 0 0 taken held
numbers_of (item damaged_payload) taken held = numbers 5 0 0 0 taken held
numbers_of (item (message type seq len)) taken held = numbers 6 type seq len taken held

-- whether an array and a count are a line's
abbrev pub usable : List ℕ → ℕ → Bool
usable array count = eqb (length array) held_max && leb count held_max

-- what the probe promises of its numbers and of the array: a call's, or the number 1 with the array as it was
pub record Probed (n : Numbers) (count : ℕ) (new entry exit : List ℕ) : Type 0 where
  pub answers : n ≡ if (usable entry count)
      (numbers_of (receive (take count entry) new).answer (receive (take count entry) new).taken (length (receive (take count entry) new).held))
      (numbers 1 0 0 0 0 0)
  pub leaves : if (usable entry count) (take (length (receive (take count entry) new).held) exit) exit
      ≡ if (usable entry count) (receive (take count entry) new).held entry
