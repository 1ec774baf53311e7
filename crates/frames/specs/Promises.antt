-- What is promised where a message is put into a lent buffer.
use Rattle.std.specs.Prelude.{ℕ, List, ◌≡◌, length}
use Rattle.message.specs.Writing.{placed}

-- "stands at the front of its buffer; the rest is unchanged": the answered length, and the buffer at exit
pub record Put (count : ℕ) (bytes entry exit : List ℕ) : Type 0 where
  pub counts : count ≡ length bytes
  pub leaves : exit ≡ placed 0 bytes entry
