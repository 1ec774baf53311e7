-- Document 01, "Capture lister", of a reader and a writer whose bytes are known (`Rattle.std.specs.Io.KnownBytes`): what is read and what is
-- written.
use Rattle.std.specs.Prelude.{ℕ, Bool, false, List, [], ◌++◌, ◌≡◌, ⊤, Option, IfSome, length, Result, Ok}
use Rattle.std.specs.Io.KnownBytes.{Appends, Consumes, IsAtEnd, Keeps}
use Rattle.line.specs.Cuts.{handed}
use Rattle.texts.specs.Text.{ascii}
use Rattle.listing_lines.specs.Text.{end_of}
use Rattle.listing_lines.specs.Waiting.{lines_of}
use Rattle.listing.specs.Standing.{items_in, Standing, fresh, listed, writes_in}
use Rattle.listing.specs.Promises.{on_some, on_all}
use Rattle.streams.specs.declared.failure.Failure.{Failure}

-- "It reads standard input and prints `items`, a line an item .., then `end` and the held count": all that is printed of an input
unfoldable pub listing_of : (input : List ℕ) → List ℕ
listing_of input = ascii "items\n" ++ (lines_of (items_in [] input) ++ end_of (length (handed [] input).held))

-- what is printed last: the lines that wait, then `end` and the held count
abbrev pub last_of : Standing → List ℕ
last_of s = s.waiting ++ end_of (length s.held)

-- some bytes were read, and what they bring was written
pub record Moves (room : ℕ) (start : Standing) (bytes : List ℕ) (end : Standing) (left left' written written' : Option (List ℕ)) : Type 0 where
  pub lists : end ≡ listed room start bytes
  pub reads : Consumes left left' bytes
  pub writes : Appends written written' (writes_in room start bytes)

-- all is as it was
pub record Rests (start end : Standing) (left left' written written' : Option (List ℕ)) : Type 0 where
  pub lists : end ≡ start
  pub reads : Keeps left left'
  pub writes : Keeps written written'

-- what `list_some` promises of them: of some piece, since no contract can name the one that was read
pub record MovesSome (r : Result Bool Failure) (room : ℕ) (start end : Standing) (left left' written written' : Option (List ℕ)) : Type 0 where
  pub piece : List ℕ
  pub moves : on_some r (Moves room start piece end left left' written written') (Rests start end left left' written written') ⊤
  pub ends : r ≡ Ok false → IsAtEnd left'

-- what `list_all` promises of them: the same of all that was read, from the beginning
pub record MovesAll (r : Result Unit Failure) (room : ℕ) (end : Standing) (left left' written written' : Option (List ℕ)) : Type 0 where
  pub input : List ℕ
  pub moves : on_all r (Moves room fresh input end left left' written written') ⊤
  pub ends : r ≡ Ok tt → IsAtEnd left'

-- what `list` promises: where it answers that all went well, all that there was to read has been read, and its listing has been written
pub record ListsWell (left left' written written' : Option (List ℕ)) : Type 0 where
  pub ends : IsAtEnd left'
  pub writes : IfSome left (λ input. Appends written written' (listing_of input))
