-- What the functions promise, by the cases of what they answer. No contract says what a program reads or writes: so they speak of what
-- waits and of what is held.
use Rattle.std.specs.Prelude.{ℕ, ◌<◌, Bool, true, false, List, [], ◌≡◌, length, Result, Ok, Err}
use Rattle.listing.specs.Standing.{Standing, fresh, listed, writes_in}
use Rattle.streams.specs.declared.failure.Failure.{Failure}
use Rattle.streams.specs.declared.failure.Failure.TheVariants.{Read, Write, Endless}

-- the room that lines wait in
abbrev pub out_room : ℕ
out_room = 4096

-- a write failed: nothing waits, and one was due while the lines of these bytes joined
pub record Fails (room : ℕ) (start : Standing) (piece : List ℕ) (end : Standing) : Type 0 where
  pub empty : end.waiting ≡ []
  pub due : 0 < length (writes_in room start piece)

-- by what a read, and the listing of what it brought, answer: it goes on, nothing more can be read, or a write failed
abbrev pub on_some : Result Bool Failure → (goes stops fails : Type 0) → Type 0
on_some (Ok true) goes stops fails = goes
on_some (Ok false) goes stops fails = stops
on_some (Err Read) goes stops fails = stops
on_some (Err Write) goes stops fails = fails
on_some (Err Endless) goes stops fails = ⊥

-- by what all reads answer: what was read is listed, whether the input ended or not, or a write failed
abbrev pub on_all : Result Unit Failure → (stands fails : Type 0) → Type 0
on_all (Ok u) stands fails = stands
on_all (Err Read) stands fails = stands
on_all (Err Write) stands fails = fails
on_all (Err Endless) stands fails = stands

-- what `list_some` promises of how far the listing was and is: some piece, since no contract can name the one that was read, was handed
-- in whole, or a write failed; where none was read, all is as it was
pub record ListsSome (r : Result Bool Failure) (room : ℕ) (start end : Standing) : Type 0 where
  pub piece : List ℕ
  pub lists : on_some r (end ≡ listed room start piece) (end ≡ start) (Fails room start piece end)

-- what `list_all` promises: the same of some input, from the beginning
pub record ListsAll (r : Result Unit Failure) (room : ℕ) (end : Standing) : Type 0 where
  pub input : List ℕ
  pub lists : on_all r (end ≡ listed room fresh input) (Fails room fresh input end)
