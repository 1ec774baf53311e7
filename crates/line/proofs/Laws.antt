-- The line's laws, over the definitions and so over the promises of `decide` and `receive`: what a call takes, demand 2's cuts, the
-- limit of what is held, and where every byte goes. Each is shown in the file that its proof cites.
use Prim.Native.Nat.{ℕ, ◌≤◌, ◌<◌}
use mathlib.Core.Bool.{true, false}
use mathlib.Core.List.{List, [], ◌∷◌, ◌++◌}
use mathlib.Core.Path.{◌≡◌}
use lib.ListN.{length, take, drop}
use Rattle.message.specs.Bytes as bytes
use Rattle.message.specs.Bytes.{max_len, allowed}
use Rattle.message.specs.Items.{message, scan}
use Rattle.line.specs.Cuts.{Found, found, before, on_answer, handed, handed_each, joined, gone_in, went}
use Rattle.line.specs.Worked as worked
use Rattle.line.specs.Receiving.{held_max, decides, more, item, answered, receive}
use Rattle.line.proofs.Bounds as bounds
use Rattle.line.proofs.CallByCall as calls
use Rattle.line.proofs.Examples as examples
use Rattle.line.proofs.Got.{Removes}
use Rattle.line.proofs.Got as got
use Rattle.line.proofs.Handed as hand
use Rattle.line.proofs.Pieces as pieces

-- "the smallest number of new bytes .. that decides one": fewer decide nothing
pub fewer_decide_nothing : (held new : List ℕ) (k : ℕ) → k < (receive held new).taken → decides (scan (held ++ take k new)) ≡ false
fewer_decide_nothing = got.fewer_decide_nothing

-- "if none does, all"
pub more_takes_all : (held new : List ℕ) → (receive held new).answer ≡ more → (receive held new).taken ≡ length new
more_takes_all = got.more_takes_all

-- the item is the one that all the bytes together begin with
pub item_of_all : (held new : List ℕ) → (receive held new).answer ≡ answered (scan (held ++ new))
item_of_all = got.item_of_all

-- an item takes no more than there is and removes two bytes at least, so that handing in comes to an end
pub item_removes : (held new : List ℕ) {i : _} → (receive held new).answer ≡ item i → Removes held new
item_removes = got.item_removes

-- a message that is answered has a LEN within the limit
pub message_short : (held new : List ℕ) {t q len : ℕ} → (receive held new).answer ≡ item (message t q len) → len ≤ max_len
message_short = got.message_short

-- handing a piece in, its untaken rest again, until *more*
pub handed_more : (held piece : List ℕ) → (receive held piece).answer ≡ more
    → handed held piece ≡ record { items = []; held = (receive held piece).held }
handed_more held piece h = rw (hand.handed_step held piece, h)

pub handed_item : (held piece : List ℕ) {i : _} → (receive held piece).answer ≡ item i
    → handed held piece
    ≡ before (found i (receive held piece).payload ∷ [])
    (handed (receive held piece).held (drop (receive held piece).taken piece))
handed_item held piece h = rw (hand.handed_step held piece, h)

-- demand 2's cuts: any pieces, one after the other, give the same items in the same order and the same held bytes as the pieces joined
pub cuts : (pieces : List (List ℕ)) → handed_each [] pieces ≡ handed [] (joined pieces)
cuts = hand.cuts

-- and so from any held bytes on, where there is a piece at all
pub cuts_from : (held piece : List ℕ) (pieces : List (List ℕ)) → handed_each held (piece ∷ pieces)
    ≡ handed held (joined (piece ∷ pieces))
cuts_from = hand.each_joined

-- one example by hand: noise, an ACK, a damaged message with a NAK right behind it, a forbidden header and a frame, in six pieces
pub worked_example : handed_each [] worked.pieces ≡ worked.heard
worked_example = examples.worked

-- call by call: the bytes that a call takes decide as all of its bytes do
pub taken_suffices : (held new : List ℕ) → receive held (take (receive held new).taken new) ≡ receive held new
taken_suffices = calls.taken_suffices

-- after *more*, what is held decides nothing and stays
pub more_rests : (held new : List ℕ) → (receive held new).answer ≡ more
    → handed (receive held new).held [] ≡ record { items = []; held = (receive held new).held }
more_rests = calls.more_rests

-- the bytes that a call takes, handed in until *more*: its item, if any, and what comes of the bytes held after it
pub taken_handed : (held new : List ℕ)
    → handed held (take (receive held new).taken new)
    ≡ on_answer (receive held new).answer (receive held new).held (receive held new).payload (handed (receive held new).held [])
taken_handed = calls.taken_handed

-- bytes behind others: where those gave some items and leave some bytes held, the next ones go on from there
pub handed_on : (start ahead behind held : List ℕ) (items : List Found) → handed start ahead ≡ before items (handed held [])
    → handed start (ahead ++ behind) ≡ before items (handed held behind)
handed_on = calls.handed_on

-- a message that arrives in two pieces: the first is held, and answered *more*; with the second the message is there
pub first_piece : (type seq : ℕ) (payload first second : List ℕ) → allowed type (length payload) ≡ true
    → first ++ second ≡ bytes.message type seq payload → 0 < length second
    → receive [] first ≡ record { answer = more; payload = []; taken = length first; held = first }
first_piece type seq payload first second fine cut some = pieces.first_piece type seq payload first second fine cut some

pub last_piece : (type seq : ℕ) (payload first second : List ℕ) → allowed type (length payload) ≡ true
    → first ++ second ≡ bytes.message type seq payload
    → receive first second
    ≡ record { answer = item (message type seq (length payload)); payload = payload; taken = length second; held = [] }
last_piece type seq payload first second fine cut = pieces.last_piece type seq payload first second fine cut

-- "At most 265 bytes are held.": after every call, and in the end
pub receive_bounded : (held new : List ℕ) → length held ≤ held_max → length (receive held new).held ≤ held_max
receive_bounded = bounds.receive_bounded

pub handed_bounded : (held piece : List ℕ) → length held ≤ held_max → length (handed held piece).held ≤ held_max
handed_bounded = bounds.handed_bounded

-- every byte that a call looks at is dropped, removed or held, and so is every byte that was handed in, in order
pub receive_accounts : (held new : List ℕ) → held ++ take (receive held new).taken new ≡ gone_in held new ++ (receive held new).held
receive_accounts = bounds.receive_accounts

pub handed_accounts : (held piece : List ℕ) → held ++ piece ≡ went held piece ++ (handed held piece).held
handed_accounts = bounds.handed_accounts
