-- What a call got, in two cases with the bytes that it looked at, and what holds of every call by them.
use Prim.Native.Nat.{ℕ, ◌+◌, ◌≤◌, ◌<◌}
use mathlib.Core.Bool.{Bool, true, false, true≢false}
use mathlib.Core.List.{List, ◌++◌, append_assoc}
use mathlib.Core.Path.{◌≡◌, refl, sym, ap, ◌∙◌}
use native.Mathlib.Nat.{zero-add}
use native.Mathlib.Omega.{arith}
use lib.Dec.{ltb}
use lib.ListN.{length, take, drop, length-append, length-drop, take-append-drop}
use lib.Seq.{take_all, length-take-le}
use borrow.Author.Tests.{ltb-true, ltb-false}
use Rattle.message.specs.Bytes.{max_len}
use Rattle.message.specs.Items.{Item, message, Scan, undecided, decided, scan}
use Rattle.message.proofs.Found.{scan_within, message_at}
use Rattle.message.proofs.Headers.{allowed_short}
use Rattle.message.proofs.More.{scan_more}
use Rattle.line.specs.Receiving.{decides, Answer, more, item, answered, received_from, receive}
use Rattle.line.proofs.Smallest.{told}
use Rattle.line.proofs.Taking.{decides_less, receive_at, at_more}

-- *more*, or an item that k new bytes decide and fewer do not
pub data Got (held new : List ℕ) : Type 0 where
  got_more : {e : ℕ} → scan (held ++ new) ≡ undecided e → receive held new ≡ received_from (held ++ new) (length new) → Got held new
  got_item : {i : Item} {d r : ℕ} (k : ℕ) → k ≤ length new → scan (held ++ take k new) ≡ decided i d r
      → ((j : ℕ) → j < k → decides (scan (held ++ take j new)) ≡ false)
      → receive held new ≡ received_from (held ++ take k new) k → Got held new

module _ (held new : List ℕ) where
  abbrev test : ℕ → Bool
  test k = decides (scan (held ++ take k new))

  got_by : (k : ℕ) → k ≤ length new → (k < length new → test k ≡ true) → ((j : ℕ) → j < k → test j ≡ false)
      → (s : Scan) → scan (held ++ take k new) ≡ s → Got held new
  got_by k within here none (decided i d r) h = got_item k within h none (receive_at held new k within here none)
  got_by k within here none (undecided e) h = at_end (ltb k (length new)) refl where
    at_end : (b : Bool) → ltb k (length new) ≡ b → Got held new
    at_end true l = absurd (true≢false (sym (here (ltb-true k (length new) l)) ∙ ap decides h))
    at_end false l =
        let all : take k new ≡ new = take_all k new (ltb-false k (length new) l) in
        let waits : scan (held ++ new) ≡ undecided e = rw all at h in
        got_more waits (at_more held new (ap decides waits))

  pub got : Got held new
  got =
      let s = told test 0 (length new) in
      got_by s.past s.within (λ h. rw (zero-add s.past) at (s.here h)) (λ j h. rw (zero-add j) at (s.none j h))
      (scan (held ++ take s.past new)) refl

-- fewer bytes than a call takes decide nothing
fewer_by : (held new : List ℕ) → Got held new → (k : ℕ) → k < (receive held new).taken → decides (scan (held ++ take k new)) ≡ false
fewer_by held new (got_more h got-it) k few =
    let less : k < length new = rw got-it at few in
    decides_less (held ++ take k new) (drop k new)
    (rw (append_assoc held (take k new) (drop k new), take-append-drop k new) (ap decides h))
fewer_by held new (got_item t within h none got-it) k few = none k (rw got-it at few)

pub fewer_decide_nothing : (held new : List ℕ) (k : ℕ) → k < (receive held new).taken → decides (scan (held ++ take k new)) ≡ false
fewer_decide_nothing held new k few = fewer_by held new (got held new) k few

-- *more* takes all
all_by : (held new : List ℕ) → Got held new → (receive held new).answer ≡ more → (receive held new).taken ≡ length new
all_by held new (got_more h got-it) said = rw got-it
all_by held new (got_item k within h none got-it) said =
    let told : ◌≡◌ {A = Answer} (item _) more = rw (got-it, h) at said in
    let z : ◌≡◌ {A = ℕ} 0 1 = cc in absurd (omega arith)

pub more_takes_all : (held new : List ℕ) → (receive held new).answer ≡ more → (receive held new).taken ≡ length new
more_takes_all held new said = all_by held new (got held new) said

-- the item is the one that all the bytes together begin with
whole_by : (held new : List ℕ) → Got held new → (receive held new).answer ≡ answered (scan (held ++ new))
whole_by held new (got_more h got-it) = rw got-it
whole_by held new (got_item k within h none got-it) =
    let all : (held ++ take k new) ++ drop k new ≡ held ++ new =
    append_assoc held (take k new) (drop k new) ∙ ap (λ (l : List ℕ). held ++ l) (take-append-drop k new) in
    rw (got-it, h) (sym (ap answered (rw all at (scan_more (held ++ take k new) (drop k new) h))))

pub item_of_all : (held new : List ℕ) → (receive held new).answer ≡ answered (scan (held ++ new))
item_of_all held new = whole_by held new (got held new)

-- an item takes what there is and removes two bytes at least; a message's LEN is within the limit
pub record Removes (held new : List ℕ) : Type 0 where
  pub within : (receive held new).taken ≤ length new
  pub fewer : length (receive held new).held + 2 ≤ length held + (receive held new).taken

removes_by : (held new : List ℕ) {i : Item} → Got held new → (receive held new).answer ≡ item i → Removes held new
removes_by held new {i} (got_more h got-it) said =
    let told : ◌≡◌ {A = Answer} more (item i) = rw (got-it, h) at said in
    let z : ◌≡◌ {A = ℕ} 0 1 = cc in absurd (omega arith)
removes_by held new (got_item {d = d} {r = r} k within h none got-it) said =
    let w = scan_within (held ++ take k new) h in
    let all : length (held ++ take k new) ≡ length held + k =
    length-append held (take k new) ∙ ap (λ (n : ℕ). length held + n) (length-take-le k new within) in
    record {
      within = rw got-it within;
      fewer = rw (got-it, h, length-drop (d + r) (held ++ take k new)) (omega (arith, w, all));
    }

pub item_removes : (held new : List ℕ) {i : Item} → (receive held new).answer ≡ item i → Removes held new
item_removes held new said = removes_by held new (got held new) said

short_by : (held new : List ℕ) {t q len : ℕ} → Got held new → (receive held new).answer ≡ item (message t q len) → len ≤ max_len
short_by held new {t} {q} {len} (got_more h got-it) said =
    let told : ◌≡◌ {A = Answer} more (item (message t q len)) = rw (got-it, h) at said in
    let z : ◌≡◌ {A = ℕ} 0 1 = cc in absurd (omega arith)
short_by held new {t} {q} {len} (got_item {i = j} k within h none got-it) said =
    let told : ◌≡◌ {A = Answer} (item j) (item (message t q len)) = rw (got-it, h) at said in
    let same : j ≡ message t q len = cc in
    allowed_short t len (message_at (held ++ take k new) (rw same at h)).fine

pub message_short : (held new : List ℕ) {t q len : ℕ} → (receive held new).answer ≡ item (message t q len) → len ≤ max_len
message_short held new said = short_by held new (got held new) said
