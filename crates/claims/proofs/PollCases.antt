-- What a poll does: one case for each step of its list, with all that led to it.
use Prim.Native.Nat.{ℕ}
use mathlib.Core.Bool.{true, false, cond as if}
use mathlib.Core.List.{List, ◌∷◌, ◌++◌}
use mathlib.Core.Option.{none, some}
use mathlib.Core.Path.{◌≡◌}
use Rattle.link.specs.SequenceIds.{seq_after}
use Rattle.link.specs.Frames.{Frame, first_sent, due, may_go_again, sent_again}
use Rattle.ledger.specs.Lists.{All}
use Rattle.ledger.specs.Parts.{queued, in_flight, Request, Ledger, Search, nobody, somebody, oldest}
use Rattle.ledger.specs.Answers.{no_response, no_acknowledgement}
use Rattle.ledger.specs.Receiving.{flies}
use Rattle.ledger.specs.Polling.{Act, overdue_in, queued_in, or_else, ends, sends, step1, step2, step3, step4, act}
use Rattle.ledger.proofs.Cases.{by_test}
use Rattle.ledger.proofs.States.{flies_state, queued_state}
use Rattle.ledger.proofs.Searches.{Looked, none_shows, one_shows, look}

pub data Acted (l : Ledger) (t : ℕ) : Act → Type 0 where
  no_response_law : (b a : List Request) (q : Request) {u : Unit {0}} → l.live ≡ b ++ (q ∷ a) → overdue_in t q.state ≡ some u
      → Acted l t (ends l t no_response b q a)
  goes_again : (b a : List Request) (q : Request) (f : Frame) → l.live ≡ b ++ (q ∷ a) → q.state ≡ in_flight f → due f t ≡ true
      → may_go_again f ≡ true → Acted l t (sends l t (sent_again f t) l.next_seq b q a)
  gives_up : (b a : List Request) (q : Request) (f : Frame) → l.live ≡ b ++ (q ∷ a) → q.state ≡ in_flight f → due f t ≡ true
      → Acted l t (ends l t no_acknowledgement b q a)
  goes_first : (b a : List Request) (q : Request) → l.live ≡ b ++ (q ∷ a) → q.state ≡ queued
      → All (λ x. flies x ≡ none) l.live → All (λ x. queued_in x.state ≡ none) b
      → Acted l t (sends l t (first_sent l.next_seq t) (seq_after l.next_seq) b q a)
  -- none is overdue; and none is in flight or queued, or the one in flight is not due
  quiet_free : All (λ x. overdue_in t x.state ≡ none) l.live → All (λ x. flies x ≡ none) l.live
      → All (λ x. queued_in x.state ≡ none) l.live → Acted l t (step4 l t)
  quiet_busy : All (λ x. overdue_in t x.state ≡ none) l.live → (b a : List Request) (q : Request) (f : Frame)
      → l.live ≡ b ++ (q ∷ a) → q.state ≡ in_flight f → due f t ≡ false → Acted l t (step4 l t)

-- by the first step that applies
module _ (l : Ledger) (t : ℕ) where
  module _ (current : All (λ x. overdue_in t x.state ≡ none) l.live) where
    by_step3 : All (λ x. flies x ≡ none) l.live → (s : Search (Unit {0})) → Looked (λ q. queued_in q.state) l.live s
        → Acted l t (or_else (step3 l t nobody s) (step4 l t))
    by_step3 free nobody (none_shows h) = quiet_free current free h
    by_step3 free (somebody b it u a) (one_shows among shown h) = goes_first b a it among (queued_state it.state shown) free h

    by_step2 : (s : Search Frame) → Looked flies l.live s
        → Acted l t (or_else (step2 l t s) (or_else (step3 l t s (oldest (λ q. queued_in q.state) l.live)) (step4 l t)))
    by_step2 nobody (none_shows free) =
        by_step3 free (oldest (λ q. queued_in q.state) l.live) (look (λ q. queued_in q.state) l.live)
    by_step2 (somebody b it f a) (one_shows among shown h) =
        let flying = flies_state it.state shown in
        let over = ends l t no_acknowledgement b it a in
        let again = sends l t (sent_again f t) l.next_seq b it a in
        by_test (λ x. Acted l t (or_else (if x (some (if (may_go_again f) again over)) none) (step4 l t))) (due f t)
        (λ late. by_test (λ x. Acted l t (if x again over)) (may_go_again f)
        (λ may. goes_again b a it f among flying late may)
        (λ may. gives_up b a it f among flying late))
        (λ calm. quiet_busy current b a it f among flying calm)

  by_step1 : (s : Search (Unit {0})) → Looked (λ q. overdue_in t q.state) l.live s
      → Acted l t (or_else (step1 l t s) (or_else (step2 l t (oldest flies l.live))
      (or_else (step3 l t (oldest flies l.live) (oldest (λ q. queued_in q.state) l.live)) (step4 l t))))
  by_step1 nobody (none_shows current) = by_step2 current (oldest flies l.live) (look flies l.live)
  by_step1 (somebody b it u a) (one_shows among shown h) = no_response_law b a it among shown

  pub acted : Acted l t (act l t)
  unfolding act
  acted = by_step1 (oldest (λ q. overdue_in t q.state) l.live) (look (λ q. overdue_in t q.state) l.live)
