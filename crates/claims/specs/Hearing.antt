-- Demand 2's statement about cuts, of the receives in a list of calls: the bytes that they take and the items that they answer.
use Rattle.std.specs.Prelude.{ℕ, List, [], ◌∷◌, ◌++◌, map, ◌≡◌, take}
use Rattle.message.specs.Items.{Item}
use Rattle.line.specs.Receiving as line
use Rattle.line.specs.Receiving.{more, item}
use Rattle.line.specs.Cuts.{Found, found, Heard, handed}
use Rattle.ledger.specs.Answers.{Answer, refused, opened, submitted, received, polled}
use Rattle.ledger.specs.Numbers.{numbers_of}
use Rattle.ledger.specs.Calls.{Call, submit, receive, poll}
use Rattle.ledger.specs.Runs.{Entry}

-- the bytes that a call brings from the line
abbrev pub brought_by : Call → List ℕ
brought_by (submit fields bytes wanted clock) = []
brought_by (receive bytes reply buffer clock) = bytes
brought_by (poll output clock) = []

-- "the bytes taken", joined, in their order: as many of a call's as its answer says
unfoldable pub bytes_taken : List Entry → List ℕ
bytes_taken [] = []
bytes_taken (e ∷ before) = bytes_taken before ++ take (numbers_of e.answer).taken (brought_by e.call)

-- the item of an answer of the line, if it is one
abbrev pub item_in : line.Answer → List Item
item_in more = []
item_in (item i) = i ∷ []

-- that of a call's answer
abbrev pub items_in : Answer → List Item
items_in (refused number) = []
items_in opened = []
items_in (submitted id) = []
items_in (received r) = item_in r.item
items_in (polled p) = []

-- the items of the accepted receives, in their order
unfoldable pub items_answered : List Entry → List Item
items_answered [] = []
items_answered (e ∷ before) = items_answered before ++ items_in e.answer

-- what an accepted receive answers, or else what an earlier one did
abbrev pub last_of : Answer → line.Answer → line.Answer
last_of (refused number) earlier = earlier
last_of opened earlier = earlier
last_of (submitted id) earlier = earlier
last_of (received r) earlier = r.item
last_of (polled p) earlier = earlier

-- what the last accepted receive answered; *more* where there was none, as nothing is held then
unfoldable pub last_receive : List Entry → line.Answer
last_receive [] = more
last_receive (e ∷ before) = last_of e.answer (last_receive before)

-- what was found, without the payloads
abbrev pub item_of : Found → Item
item_of (found i payload) = i

abbrev pub items_of : Heard → List Item
items_of h = map item_of h.items

-- the items of the accepted receives, in order, with what is held in the end, are those of the bytes taken, joined: handed in at once,
-- from nothing held, until *more*. What is held may decide items that no call has answered yet, for of a damaged message "only the two
-- SYN bytes are removed" and what follows is "held as it is". The next receives answer them, so here they come last
pub record HeardAs (past : List Entry) (kept : List ℕ) : Type 0 where
  -- the items of the bytes taken: those answered, then those that what is held decides
  pub items : items_of (handed [] (bytes_taken past)) ≡ items_answered past ++ items_of (handed kept [])
  -- the bytes that the bytes taken leave held in the end: those that what is held leaves
  pub held : (handed [] (bytes_taken past)).held ≡ (handed kept []).held

-- the same where what is held decides nothing
pub record HeardAll (past : List Entry) (kept : List ℕ) : Type 0 where
  -- the items of the bytes taken: those answered
  pub items : items_of (handed [] (bytes_taken past)) ≡ items_answered past
  -- the bytes that the bytes taken leave held in the end: those held
  pub held : (handed [] (bytes_taken past)).held ≡ kept

-- two lists have the same items and hold the same bytes
pub record HeardAlike (past other : List Entry) (kept other_kept : List ℕ) : Type 0 where
  pub items : items_answered past ≡ items_answered other
  pub held : kept ≡ other_kept
