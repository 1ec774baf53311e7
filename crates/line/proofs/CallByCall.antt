-- Handing in call by call: the bytes that a call takes decide as all of its bytes do, and each call goes on where the one before it
-- stopped.
use Prim.Native.Nat.{ℕ, ◌≤◌}
use mathlib.Core.List.{List, [], ◌++◌, append_assoc, append-nil}
use mathlib.Core.Path.{◌≡◌, sym, ap, ◌∙◌}
use native.Mathlib.Omega.{arith}
use lib.ListN.{length, take, drop, length-take, drop_of_length-le}
use lib.Seq.{take-length, take-take, length-take-le}
use Rattle.line.specs.Cuts.{Found, before, on_answer, handed}
use Rattle.line.specs.Receiving.{decides, Answer, more, item, receive}
use Rattle.line.proofs.Dropped.{left_waits}
use Rattle.line.proofs.Got.{Got, got_more, got_item, got}
use Rattle.line.proofs.Handed.{handed_step, handed_joined}
use Rattle.line.proofs.Taking.{receive_at, at_more}

-- without the bytes that it leaves, a call gives the same
suffices_by : (held new : List ℕ) → Got held new → receive held (take (receive held new).taken new) ≡ receive held new
suffices_by held new (got_more h got-it) = rw (got-it, take-length new) got-it
suffices_by held new (got_item k within h none got-it) =
    let same : (j : ℕ) → j ≤ k → take j (take k new) ≡ take j new = λ j le. take-take j k new le in
    let size : length (take k new) ≡ k = length-take-le k new within in
    rw got-it
    (rw (same k (omega arith)) at
    (receive_at held (take k new) k (omega arith) (λ few. absurd (omega arith)) (λ j few. rw (same j (omega arith)) (none j few))))

pub taken_suffices : (held new : List ℕ) → receive held (take (receive held new).taken new) ≡ receive held new
taken_suffices held new = suffices_by held new (got held new)

-- after *more*, what is held decides nothing and stays
rests_by : (held new : List ℕ) → Got held new → (receive held new).answer ≡ more
    → handed (receive held new).held [] ≡ record { items = []; held = (receive held new).held }
rests_by held new (got_more {e} h got-it) said =
    let rest = drop e (held ++ new) in
    let waits = left_waits (held ++ new) h in
    let same = append-nil rest in
    rw (got-it, h) (handed_step rest [] ∙ rw (at_more rest [] (rw same (ap decides waits)), same, waits))
rests_by held new (got_item k within h none got-it) said =
    let told : ◌≡◌ {A = Answer} (item _) more = rw (got-it, h) at said in
    let z : ◌≡◌ {A = ℕ} 0 1 = cc in absurd (omega arith)

pub more_rests : (held new : List ℕ) → (receive held new).answer ≡ more
    → handed (receive held new).held [] ≡ record { items = []; held = (receive held new).held }
more_rests held new said = rests_by held new (got held new) said

-- the bytes that a call takes, handed in until *more*: its item, if any, and what comes of the bytes held after it
pub taken_handed : (held new : List ℕ)
    → handed held (take (receive held new).taken new)
    ≡ on_answer (receive held new).answer (receive held new).held (receive held new).payload (handed (receive held new).held [])
taken_handed held new =
    let k = (receive held new).taken in
    let none_left : drop k (take k new) ≡ [] = drop_of_length-le (take k new) {i = k} (rw (length-take k new) (omega arith)) in
    handed_step held (take k new) ∙ rw (taken_suffices held new, none_left)

-- bytes behind others: where those gave some items and leave some bytes held, the next ones go on from there
pub handed_on : (start ahead behind held : List ℕ) (items : List Found) → handed start ahead ≡ before items (handed held [])
    → handed start (ahead ++ behind) ≡ before items (handed held behind)
handed_on start ahead behind held items so_far =
    let rest = handed held [] in
    handed_joined start ahead behind
    ∙ rw so_far
    (ap (λ (found : List Found). record { items = found; held = (handed rest.held behind).held })
    (append_assoc items rest.items (handed rest.held behind).items)
    ∙ ap (before items) (sym (handed_joined held [] behind)))
