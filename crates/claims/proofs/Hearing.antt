-- Demand 2's statement about cuts along every list of calls from open on: each accepted receive goes on where the one before it stopped
-- (laws of the line, call by call), and every other call leaves what is held and takes nothing.
use Prim.Native.Nat.{ℕ}
use mathlib.Core.Bool.{cond as if}
use mathlib.Core.List.{List, [], ◌∷◌, ◌++◌, map, append_assoc, append-nil, map-append}
use mathlib.Core.Option.{Option, none, some}
use mathlib.Core.Path.{◌≡◌, refl, sym, ap, ◌∙◌}
use native.Mathlib.Omega.{arith}
use lib.Dec.{ltb}
use lib.ListN.{take}
use Rattle.line.specs.Receiving as line
use Rattle.line.specs.Receiving.{more, item}
use Rattle.line.specs.Cuts.{Found, found, Heard, before, handed, handed_each, joined}
use Rattle.line.proofs.Laws.{cuts, more_rests, taken_handed, handed_on}
use Rattle.ledger.specs.Parts.{reserved_max, Ledger}
use Rattle.ledger.specs.Answers.{Done}
use Rattle.ledger.specs.Receiving as receiving
use Rattle.ledger.specs.Polling as polling
use Rattle.ledger.specs.Numbers.{numbers_of}
use Rattle.ledger.specs.Calls.{Call, submit, receive, poll}
use Rattle.ledger.specs.Refusals.{first_of, refusal}
use Rattle.ledger.specs.Runs.{opened_by, accepts, answers_to, step, Entry, Run, start, then, run}
use Rattle.claims.specs.Hearing.{bytes_taken, items_in, items_answered, last_of, last_receive, item_of, HeardAs, HeardAll, HeardAlike}
use Rattle.claims.proofs.Along.{entry_of}
use Rattle.ledger.proofs.Cases.{by_test}

-- what has been heard, with the payloads that the answers do not show
record Hears (past : List Entry) (kept : List ℕ) : Type 0 where
  items : List Found
  answered : map item_of items ≡ items_answered past
  whole : handed [] (bytes_taken past) ≡ before items (handed kept [])
  rests : last_receive past ≡ more → handed kept [] ≡ record { items = []; held = kept }

-- a call that takes nothing and answers no item
calm : (e : Entry) (past : List Entry) (kept : List ℕ) → (numbers_of e.answer).taken ≡ 0 → items_in e.answer ≡ []
    → ((a : line.Answer) → last_of e.answer a ≡ a) → Hears past kept → Hears (e ∷ past) kept
unfolding bytes_taken items_answered last_receive
calm e past kept no_bytes no_item same h = record {
  items = h.items;
  answered = simp (no_item, append-nil) h.answered;
  whole = simp (no_bytes, append-nil) h.whole;
  rests = λ last. h.rests (sym (same (last_receive past)) ∙ last);
}

-- an accepted receive: its item, the bytes that it takes and what it leaves held are the line's
module _ (past : List Entry) (l : Ledger) (bytes reply buffer : List ℕ) (t : ℕ) (h : Hears past l.held) where
  abbrev r : line.Received
  r = line.receive l.held bytes

  -- what has happened with it, whatever it does to requests
  abbrev with_it : receiving.Act → List Entry
  with_it does = entry_of (receive bytes reply buffer t) (receiving.received_as l r does reply buffer t) ∷ past

  -- the bytes that it takes come next
  next_joined : (next : Heard) → handed l.held (take r.taken bytes) ≡ next
      → handed [] (bytes_taken past ++ take r.taken bytes) ≡ before h.items next
  next_joined next e =
      handed_on [] (bytes_taken past) (take r.taken bytes) l.held h.items h.whole ∙ ap (before h.items) e

  hears_receive : (does : receiving.Act) (a : line.Answer) → r.answer ≡ a → Hears (with_it does) r.held
  unfolding bytes_taken items_answered last_receive
  hears_receive does more said = record {
    items = h.items;
    answered = rw (said, append-nil (items_answered past)) h.answered;
    whole = next_joined (handed r.held [])
        (taken_handed l.held bytes ∙ rw said (sym (more_rests l.held bytes said)));
    rests = λ last. more_rests l.held bytes said;
  }
  hears_receive does (item i) said =
      let it = found i r.payload ∷ [] in
      let rest = handed r.held [] in
      record {
        items = h.items ++ it;
        answered = rw said (map-append item_of h.items it ∙ rw h.answered);
        whole = next_joined (before it rest) (taken_handed l.held bytes ∙ rw said)
            ∙ ap (λ (items : List Found). record { items = items; held = rest.held }) (sym (append_assoc h.items it rest.items));
        rests = λ last. (let z : ◌≡◌ {A = ℕ} 0 1 = cc in absurd (omega arith));
      }

-- a call with what it comes to
abbrev HearsNext : (past : List Entry) → Call → Done → Type 0
HearsNext past c d = Hears (entry_of c d ∷ past) d.next.held

module _ (past : List Entry) (l : Ledger) (h : Hears past l.held) where
  -- an accepted one
  hears_accepted : (c : Call) → HearsNext past c (accepts l c)
  unfolding receiving.receive
  hears_accepted (submit fields bytes wanted t) = calm _ past l.held refl refl (λ a. refl) h
  hears_accepted (receive bytes reply buffer t) =
      let got = line.receive l.held bytes in
      hears_receive past l bytes reply buffer t h (receiving.act l t got.answer got.payload) got.answer refl
  hears_accepted (poll output t) = by_act (polling.act l t)
    where
      by_act : (a : polling.Act) → HearsNext past (poll output t) (polling.polled_as l a output t)
      by_act (polling.does p bytes next live) = calm _ past l.held refl refl (λ a. refl) h

  -- and a refused one
  hears_next : (c : Call) (refusal : Option ℕ) → HearsNext past c (answers_to l c refusal)
  hears_next c none = hears_accepted c
  hears_next c (some n) = calm _ past l.held refl refl (λ a. refl) h

hears_step : (limit : ℕ) (s : Run) (c : Call) → Hears s.past s.ledger.held
    → Hears (then limit s c).past (then limit s c).ledger.held
unfolding step
hears_step limit s c h = hears_next s.past s.ledger h c (refusal limit s.ledger c)

hears_run : (limit : ℕ) (s : Run) (cs : List Call) → Hears s.past s.ledger.held
    → Hears (run limit s cs).past (run limit s cs).ledger.held
unfolding run
hears_run limit s [] h = h
hears_run limit s (c ∷ cs) h = hears_run limit (then limit s c) cs (hears_step limit s c h)

-- what open hands back: nothing has been heard, and nothing is held
hears_nothing : Hears [] []
unfolding bytes_taken items_answered last_receive handed_each joined
hears_nothing = record { items = []; answered = refl; whole = refl; rests = λ last. sym (cuts []) }

hears_start : (given : ℕ) → Hears [] (start given).ledger.held
unfolding first_of
hears_start given =
    by_test (λ b. Hears [] (opened_by given (if b (some 3) none)).next.held) (ltb reserved_max given) (λ b. hears_nothing)
    (λ b. hears_nothing)

hears : (limit given : ℕ) (cs : List Call) → Hears (run limit (start given) cs).past (run limit (start given) cs).ledger.held
hears limit given cs = hears_run limit (start given) cs (hears_start given)

-- so of every list: the items answered, with what is held, are those of the bytes taken, joined
pub as_joined : (limit given : ℕ) (cs : List Call) → HeardAs (run limit (start given) cs).past (run limit (start given) cs).ledger.held
as_joined limit given cs =
    let s = run limit (start given) cs in
    let h = hears limit given cs in
    record {
      items = rw h.whole (map-append item_of h.items (handed s.ledger.held []).items ∙ rw h.answered);
      held = rw h.whole;
    }

-- after *more* there are no others
pub all_answered : (limit given : ℕ) (cs : List Call) → last_receive (run limit (start given) cs).past ≡ more
    → HeardAll (run limit (start given) cs).past (run limit (start given) cs).ledger.held
all_answered limit given cs last =
    let h = hears limit given cs in
    let rests = h.rests last in
    record { items = rw (h.whole, rests, append-nil h.items) h.answered; held = rw (h.whole, rests) }

-- and they depend on the bytes alone
pub alike : (past other : List Entry) (kept other_kept : List ℕ) → HeardAll past kept → HeardAll other other_kept
    → bytes_taken past ≡ bytes_taken other → HeardAlike past other kept other_kept
alike past other kept other_kept a b same = record { items = sym a.items ∙ rw same b.items; held = sym a.held ∙ rw same b.held }
