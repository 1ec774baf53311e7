-- What the claims about a list come to for one frame, one request or two of them, said without the definitions that go along lists: the
-- other side from which those are held.
use Prim.Native.Nat.{ℕ, ◌≤◌, ◌<◌}
use mathlib.Core.Bool.{true, true≢false}
use mathlib.Core.List.{List, [], ◌∷◌, ◌++◌}
use mathlib.Core.Logic.{◌⊎◌, inl, inr}
use mathlib.Core.Option.{Option, none, some}
use mathlib.Core.Path.{◌≡◌, refl, sym, subst, ◌∙◌}
use native.Mathlib.Omega.{arith}
use lib.ListN.{length}
use Rattle.ledger.specs.Lists.{All}
use Rattle.ledger.specs.Parts.{Request}
use Rattle.ledger.specs.Answers.{Ending, sent, ended, quiet, Answer, refused, opened, submitted, received, polled}
use Rattle.ledger.specs.Runs.{Entry, Run}
use Rattle.claims.specs.Trace.{Asked, is_accepted, ending_in, frame_in, named_by, last_asked, endings, frames, live_after, requests}
use Rattle.claims.specs.Resting.{is_busy_poll, is_quiet}
use Rattle.claims.specs.Clauses.{◌∈◌, here, there, Owner, Belongs, AllBelong, Alike, Fate, still_live, has_ended, DistinctIds, OutcomeClaims, LedgerClaims}
use Rattle.claims.specs.PlainTerms.{Named, QuietTime, AnsweredQuiet, AnsweredBusy}
use Rattle.claims.proofs.Lists.{all_of, all_right}

-- "Accepted means not refused."
pub accepted_not_refused : (a : Answer) → is_accepted a ≡ true → (n : ℕ) → a ≡ refused n → ⊥
accepted_not_refused a yes-so n h = let z : ◌≡◌ {A = ℕ} 0 1 = cc in omega arith

pub not_refused_accepted : (a : Answer) → ((n : ℕ) → a ≡ refused n → ⊥) → is_accepted a ≡ true
not_refused_accepted (refused n) h = absurd (h n refl)
not_refused_accepted opened h = refl
not_refused_accepted (submitted id) h = refl
not_refused_accepted (received r) h = refl
not_refused_accepted (polled p) h = refl

-- an answer that is *quiet*, and one of a poll that did something
pub quiet_is_polls : (a : Answer) → is_quiet a ≡ true → AnsweredQuiet a
quiet_is_polls (refused n) h = absurd (true≢false (sym h))
quiet_is_polls opened h = absurd (true≢false (sym h))
quiet_is_polls (submitted id) h = absurd (true≢false (sym h))
quiet_is_polls (received r) h = absurd (true≢false (sym h))
quiet_is_polls (polled (sent n)) h = absurd (true≢false (sym h))
quiet_is_polls (polled (ended x)) h = absurd (true≢false (sym h))
quiet_is_polls (polled (quiet time)) h = record { time = time; told = refl }

pub busy_is_polls : (a : Answer) → is_busy_poll a ≡ true → AnsweredBusy a
busy_is_polls (refused n) h = absurd (true≢false (sym h))
busy_is_polls opened h = absurd (true≢false (sym h))
busy_is_polls (submitted id) h = absurd (true≢false (sym h))
busy_is_polls (received r) h = absurd (true≢false (sym h))
busy_is_polls (polled (sent n)) h = AnsweredBusy.sends n refl
busy_is_polls (polled (ended x)) h = AnsweredBusy.ends x refl
busy_is_polls (polled (quiet time)) h = absurd (true≢false (sym h))

-- "with the milliseconds to the earliest such deadline", which is 3,000 at most
pub quiet_1_to_3000 : (live : List Request) (time : Option ℕ) → QuietTime live time → (ms : ℕ) → time ≡ some ms → (1 ≤ ms) × (ms ≤ 3000)
quiet_1_to_3000 live time quiet_time ms h = quiet_time.bounded ms h

-- equal to the first, and so to each other
alike_first : (fs : List (List ℕ)) (f g : List ℕ) → All (λ x. x ≡ f) fs → g ∈ (f ∷ fs) → g ≡ f
alike_first fs f g h here = refl
alike_first fs f g h (there m) = all_of (λ x. x ≡ f) fs h g m

any_two : (fs : List (List ℕ)) → Alike fs → (f g : List ℕ) → f ∈ fs → g ∈ fs → f ≡ g
any_two [] h f g m n = elim m [ ]
any_two (x ∷ fs) h f g m n = alike_first fs x f h m ∙ sym (alike_first fs x g h n)

-- no two of a list
apart : (older between newer : List Asked) (a b : Asked) → DistinctIds (older ++ (a ∷ (between ++ (b ∷ newer)))) → a.id ≡ b.id → ⊥
apart [] between newer a b h same =
    (all_right (λ x. x.id ≡ a.id → ⊥) between (b ∷ newer) h.0).0 (sym same)
apart (x ∷ older) between newer a b h same = apart older between newer a b h.1 same

-- what belongs at a call, wherever it stands
belongs_at : (newer before : List Entry) (e : Entry) → AllBelong (newer ++ (e ∷ before)) → Belongs e before
belongs_at [] before e h = h.0
belongs_at (x ∷ newer) before e h = belongs_at newer before e h.1

-- the last request with an ID is there, and is live
named : (id : ℕ) (before : List Entry) → Owner id before → Named id before
named id before owner = record { asked = there_is; live = is_live_one }
  where
    there_is : last_asked id before ≡ none → ⊥
    there_is h =
        let last = owner.last in
        let z : ◌≡◌ {A = ℕ} 0 1 = cc in omega arith

    is_live_one : (a : Asked) → last_asked id before ≡ some a → a ∈ live_after before
    is_live_one a h =
        let last = owner.last in
        let same : owner.request ≡ a = cc in
        subst (λ (x : Asked). x ∈ live_after before) same owner.live

module _ (limit reserved : ℕ) (past : List Entry) (claims : OutcomeClaims limit reserved past) where
  -- "Its frame goes out .. three": how many there are of a request, and any two of them
  pub three_frames : (place : ℕ) → length (frames place past) ≤ 3
  three_frames place = (claims.alike place).three

  pub two_frames : (place : ℕ) (f g : List ℕ) → f ∈ frames place past → g ∈ frames place past → f ≡ g
  two_frames place f g m n = any_two (frames place past) (claims.alike place).alike f g m n

  -- any request: live and not ended, or ended once
  pub one_request : (a : Asked) → a ∈ requests past → ((a ∈ live_after past) × (endings a.place past ≡ 0)) ⊎ (endings a.place past ≡ 1)
  one_request a m = told (all_of (Fate past) (requests past) claims.fates a m)
    where
      told : Fate past a → ((a ∈ live_after past) × (endings a.place past ≡ 0)) ⊎ (endings a.place past ≡ 1)
      told (still_live live unended) = inl (live, unended)
      told (has_ended once) = inr once

  -- any live one: "Unreserved means above R."
  pub above_r : (a : Asked) → a ∈ live_after past → (reserved < a.id) × (a.id ≤ 65535)
  above_r a m = all_of (λ x. (reserved < x.id) × (x.id ≤ 65535)) (live_after past) claims.unreserved a m

  -- any two live ones
  pub two_live : (older between newer : List Asked) (a b : Asked) → live_after past ≡ older ++ (a ∷ (between ++ (b ∷ newer)))
      → a.id ≡ b.id → ⊥
  two_live older between newer a b among same = apart older between newer a b (subst DistinctIds among claims.distinct) same

  -- any ending and any frame: there is a request before it whose ID it names, and the last such is live
  module _ (newer before : List Entry) (e : Entry) (at : past ≡ newer ++ (e ∷ before)) where
    its : Belongs e before
    its = belongs_at newer before e (subst AllBelong at claims.belong)

    pub ending_named : (x : Ending) → ending_in e.answer ≡ some x → Named x.id before
    ending_named x told = named x.id before (its.ending x told)

    pub frame_named : (bytes : List ℕ) → frame_in e ≡ some bytes → Named (named_by bytes) before
    frame_named bytes out = named (named_by bytes) before (its.frame bytes out)

-- the next request ID may be issued: it is above R
pub next_above_r : (limit reserved : ℕ) (s : Run) → LedgerClaims limit reserved s
    → (reserved < s.ledger.next_id) × (s.ledger.next_id ≤ 65535)
next_above_r limit reserved s claims = claims.next
