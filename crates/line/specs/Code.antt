-- Tests of the code that are no words of document 01. Of what other crates call only `line_joining::join` cites them.
use Rattle.std.specs.Prelude.{ℕ, Bool, not, ◌&&◌, List, eqb, ltb, length, get_or}
use Rattle.message.specs.Bytes.{syn2}

-- whether a single byte is kept and the next one is not SYN's second
abbrev pub breaks : ℕ → List ℕ → Bool
breaks kept new = eqb kept 1 && (ltb 0 (length new) && not (eqb (get_or new 0 0) syn2))
