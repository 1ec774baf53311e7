-- What calls and outcomes show, kept by one call more: endings and frames belong to live requests, a request ends once at most, and
-- its frames are three at most and alike.
use Prim.Native.Nat.{ℕ, ◌+◌, ◌≤◌}
use mathlib.Core.Bool.{false, cond as if}
use mathlib.Core.List.{List, [], ◌∷◌, ◌++◌}
use mathlib.Core.Option.{Option, none, some}
use mathlib.Core.Path.{◌≡◌, refl, sym, ◌∙◌}
use native.Mathlib.Omega.{arith}
use lib.Dec.{eqb}
use lib.ListN.{length}
use borrow.Author.Tests.{eqb-true, eqb-false, eq-eqb, ne_eqb}
use Rattle.ledger.specs.Lists.{All}
use Rattle.ledger.specs.Parts.{State, queued, Request, Ledger, with_state}
use Rattle.ledger.specs.Answers.{Ending}
use Rattle.ledger.specs.Submitting.{is_live}
use Rattle.ledger.specs.Polling.{frame_bytes}
use Rattle.ledger.specs.Runs.{Entry}
use Rattle.claims.specs.Trace.{Asked, id_in, asked_as, ending_in, frame_in, named_by, last_asked, endings, frames, without, live_after, requests}
use Rattle.claims.specs.Clauses.{◌∈◌, here, there, Belongs, AllBelong, Few, Fate, still_live, has_ended}
use Rattle.ledger.proofs.Cases.{by_test}
use Rattle.claims.proofs.Lists.{all_map, all_append, in_left, in_right}
use Rattle.claims.proofs.Views.{Turn, acknowledges, marks, starts, sends_again}
use Rattle.claims.proofs.Fine.{Steady, Distinct}
use Rattle.claims.proofs.Belonging.{frame_names, asks_none, asks_other, asks_it, ends_none, ends_one, sends_none, sends_one, live_ends, live_stays, live_joins, requests_stay, requests_join, none_ended, none_sent, one_name}
use Rattle.claims.proofs.Owners.{Sent, Own, Owners, few_sent, sent_more, sent_turn, sent_same, Apart, not_live, distinct_apart, owner_of, owners_kept, owners_join, owners_turn, owners_leave}

-- what has happened, beside the live requests of a ledger
pub record Told (h : List Entry) (live : List Request) : Type 0 where
  pub owners : Owners h (live_after h) live
  pub once : (place : ℕ) → endings place h ≤ 1
  pub few : (place : ℕ) → Few (frames place h)
  pub belongs : AllBelong h
  pub fates : All (Fate h) (requests h)

-- a call without an ending or a frame
nothing_belongs : {e : Entry} {h : List Entry} → ending_in e.answer ≡ none → frame_in e ≡ none → Belongs e h
nothing_belongs ended sent = record {
  ending = λ x named. (let z : ◌≡◌ {A = ℕ} 0 1 = cc in absurd (omega arith));
  frame = λ bytes named. (let z : ◌≡◌ {A = ℕ} 0 1 = cc in absurd (omega arith));
}

-- a request at another place stays
stays_among : (gone y : Asked) → eqb gone.place y.place ≡ false → (live : List Asked) → y ∈ live
    → y ∈ without (some gone) live
unfolding without
stays_among gone y other [] among = elim among [ ]
stays_among gone y other (x ∷ live) here = rw other here
stays_among gone y other (x ∷ live) (there among) =
    by_test (λ t. y ∈ (if t (without (some gone) live) (x ∷ without (some gone) live))) (eqb gone.place x.place)
    (λ t. stays_among gone y other live among)
    (λ t. there (stays_among gone y other live among))

module _ (e : Entry) (h : List Entry) where
  -- a request keeps its owner, where nothing of it is shown
  own_kept : (x : Asked) (q : Request) → last_asked q.id (e ∷ h) ≡ last_asked q.id h
      → endings x.place (e ∷ h) ≡ endings x.place h
      → frames x.place (e ∷ h) ≡ frames x.place h → Own h x q → Own (e ∷ h) x q
  own_kept x q same_last same_ends same_sent own =
      record { last = same_last ∙ own.last; open_still = same_ends ∙ own.open_still; sent = rw same_sent own.sent }

  fate_kept : live_after (e ∷ h) ≡ live_after h → ending_in e.answer ≡ none → (a : Asked) → Fate h a → Fate (e ∷ h) a
  fate_kept same ended a (still_live among not_yet) = still_live (rw same among) (ends_none e h a.place ended ∙ not_yet)
  fate_kept same ended a (has_ended once) = has_ended (ends_none e h a.place ended ∙ once)

  pub told_calm : (live : List Request) → id_in e.answer ≡ none → ending_in e.answer ≡ none → frame_in e ≡ none → Told h live
      → Told (e ∷ h) live
  told_calm live asked ended sent told =
      let same = live_stays e h asked ended in
      record {
        owners = rw same (owners_kept h (e ∷ h) (λ q. Unit) (λ x q any own.
            own_kept x q (asks_none e h q.id asked) (ends_none e h x.place ended) (sends_none e h x.place sent) own)
            (live_after h) live (anything live) told.owners);
        once = λ k. rw (ends_none e h k ended) (told.once k);
        few = λ k. rw (sends_none e h k sent) (told.few k);
        belongs = (nothing_belongs ended sent, told.belongs);
        fates = rw (requests_stay e h asked) (all_map (Fate h) (Fate (e ∷ h)) (fate_kept same ended) (requests h) told.fates);
      }
    where
      anything : (qs : List Request) → All (λ q. Unit) qs
      anything [] = tt
      anything (q ∷ qs) = (tt, anything qs)

  pub told_join : (live : List Request) (q : Request) → q.state ≡ queued → is_live q.id live ≡ false
      → id_in e.answer ≡ some q.id → ending_in e.answer ≡ none → frame_in e ≡ none → Told h live
      → Told (e ∷ h) (live ++ (q ∷ []))
  told_join live q new free asked ended sent told =
      let more = live_joins e h asked ended in
      let its : Asked = asked_as e (length h) q.id in
      let not_yet = ends_none e h (length h) ended ∙ none_ended h (length h) (omega arith) in
      let unsent : Sent q q.state (frames (length h) (e ∷ h)) =
      rw new (sends_none e h (length h) sent ∙ none_sent h (length h) (omega arith)) in
      record {
        owners = rw more (owners_join (e ∷ h) (live_after h) live its q
            (owners_kept h (e ∷ h) (Apart q) (λ x y apart own.
            own_kept x y (asks_other e h y.id asked (λ same. apart (sym same))) (ends_none e h x.place ended)
            (sends_none e h x.place sent) own)
            (live_after h) live (not_live q.id live free) told.owners)
            (record { last = asks_it e h asked; open_still = not_yet; sent = unsent }));
        once = λ k. rw (ends_none e h k ended) (told.once k);
        few = λ k. rw (sends_none e h k sent) (told.few k);
        belongs = (nothing_belongs ended sent, told.belongs);
        fates = rw (requests_join e h asked)
            (all_append (Fate (e ∷ h)) (requests h) (its ∷ [])
            (all_map (Fate h) (Fate (e ∷ h)) (older more) (requests h) told.fates)
            (still_live (rw more (in_right its (live_after h) (its ∷ []) here)) not_yet, tt));
      }
    where
      older : live_after (e ∷ h) ≡ live_after h ++ (asked_as e (length h) q.id ∷ []) → (a : Asked) → Fate h a → Fate (e ∷ h) a
      older more a (still_live among not_yet) =
          still_live (rw more (in_left a (live_after h) (asked_as e (length h) q.id ∷ []) among))
          (ends_none e h a.place ended ∙ not_yet)
      older more a (has_ended once) = has_ended (ends_none e h a.place ended ∙ once)

  -- a request leaves with an ending that names it
  pub told_leave : (b a : List Request) (q : Request) (x : Ending) → Distinct (b ++ (q ∷ a)) → id_in e.answer ≡ none
      → ending_in e.answer ≡ some x → x.id ≡ q.id → frame_in e ≡ none → Told h (b ++ (q ∷ a)) → Told (e ∷ h) (b ++ a)
  told_leave b a q x distinct asked ended named sent told =
      let its = owner_of h (live_after h) b a q told.owners in
      let gone = its.0 in
      let own = its.1 in
      let last : last_asked x.id h ≡ some gone = rw named own.last in
      let less = live_ends e h asked ended last in
      let apart = distinct_apart b a q distinct in
      record {
        owners = rw less (owners_leave h (e ∷ h) q (λ y r away kept.
            own_kept y r (asks_none e h r.id asked)
            (ends_one e h y.place ended last ∙ rw (ne_eqb gone.place y.place
            (λ same. away (sym (one_name q.id r.id h own.last kept.last same)))) (omega arith))
            (sends_none e h y.place sent) kept)
            gone own.last (live_after h) b a apart.0 apart.1 told.owners);
        once = ended_once gone own.open_still last;
        few = λ k. rw (sends_none e h k sent) (told.few k);
        belongs = (
          record {
            ending = λ y named'. (let same : x.id ≡ y.id =
                cc in record { request = gone; last = rw (sym same) last; live = its.2 });
            frame = λ bytes named'. (let z : ◌≡◌ {A = ℕ} 0 1 = cc in absurd (omega arith));
          },
          told.belongs,
        );
        fates = rw (requests_stay e h asked)
            (all_map (Fate h) (Fate (e ∷ h)) (fate gone own.open_still last less) (requests h) told.fates);
      }
    where
      ended_once : (gone : Asked) → endings gone.place h ≡ 0 → last_asked x.id h ≡ some gone → (k : ℕ) → endings k (e ∷ h) ≤ 1
      ended_once gone not_yet last k =
          let before = told.once k in
          rw (ends_one e h k ended last)
          (by_test (λ t. (if t 1 0) + endings k h ≤ 1) (eqb gone.place k)
          (λ t. let none : endings k h ≡ 0 = rw (sym (eqb-true gone.place k t)) not_yet in omega arith)
          (λ t. omega arith))

      fate : (gone : Asked) → endings gone.place h ≡ 0 → last_asked x.id h ≡ some gone
          → live_after (e ∷ h) ≡ without (some gone) (live_after h)
          → (y : Asked) → Fate h y → Fate (e ∷ h) y
      fate gone not_yet last less y (still_live among open_still) =
          by_test (λ t. eqb gone.place y.place ≡ t → endings y.place (e ∷ h) ≡ (if t 1 0) + endings y.place h
          → Fate (e ∷ h) y)
          (eqb gone.place y.place)
          (λ t k count. has_ended (omega arith))
          (λ t k count. still_live (rw less (stays_among gone y k (live_after h) among)) (omega arith))
          refl (ends_one e h y.place ended last)
      fate gone not_yet last less y (has_ended once) =
          let most = ended_once gone not_yet last y.place in
          let count = ends_one e h y.place ended last in
          has_ended (omega arith)

  -- a request goes into another state, perhaps with a frame sent
  module _ (l : Ledger) (t : ℕ) (q : Request) where
    -- a turn's frame names the request
    turn_names : {from to : State} {bytes : List ℕ} {frame : Option (List ℕ)} → Turn l t q from to frame → frame ≡ some bytes
        → named_by bytes ≡ q.id
    turn_names (acknowledges wanted) shown = let z : ◌≡◌ {A = ℕ} 0 1 = cc in absurd (omega arith)
    turn_names marks shown = let z : ◌≡◌ {A = ℕ} 0 1 = cc in absurd (omega arith)
    turn_names {bytes = bytes} starts shown =
        let same : frame_bytes q l.next_seq ≡ bytes = cc in rw (sym same) (frame_names q l.next_seq)
    turn_names {bytes = bytes} (sends_again {f} late may) shown =
        let same : frame_bytes q f.seq ≡ bytes = cc in rw (sym same) (frame_names q f.seq)

    -- the frames after it, at its place and at others
    frames_here : {from to : State} {x : Asked} (frame : Option (List ℕ)) → Turn l t q from to frame → frame_in e ≡ frame
        → last_asked q.id h ≡ some x → (k : ℕ) → x.place ≡ k → frames k (e ∷ h) ≡ sent_more frame (frames k h)
    frames_here none turn sent last k at = sends_none e h k sent
    frames_here {x = x} (some bytes) turn sent last k at =
        let named : last_asked (named_by bytes) h ≡ some x = rw (turn_names turn refl) last in
        sends_one e h k sent named ∙ rw (eq-eqb x.place k at)

    frames_there : {from to : State} {x : Asked} (frame : Option (List ℕ)) → Turn l t q from to frame → frame_in e ≡ frame
        → last_asked q.id h ≡ some x → (k : ℕ) → (x.place ≡ k → ⊥) → frames k (e ∷ h) ≡ frames k h
    frames_there none turn sent last k away = sends_none e h k sent
    frames_there {x = x} (some bytes) turn sent last k away =
        let named : last_asked (named_by bytes) h ≡ some x = rw (turn_names turn refl) last in
        sends_one e h k sent named ∙ rw (ne_eqb x.place k away)

    pub told_turn : (b a : List Request) (s : State) (frame : Option (List ℕ)) → Distinct (b ++ (q ∷ a))
        → Turn l t q q.state s frame
        → Steady t q.wanted q.state → Steady t q.wanted s → id_in e.answer ≡ none → ending_in e.answer ≡ none
        → frame_in e ≡ frame → Told h (b ++ (q ∷ a)) → Told (e ∷ h) (b ++ (with_state s q ∷ a))
    told_turn b a s frame distinct turn was now asked ended sent told =
        let its = owner_of h (live_after h) b a q told.owners in
        let x = its.0 in
        let own = its.1 in
        let same = live_stays e h asked ended in
        let apart = distinct_apart b a q distinct in
        record {
          owners = rw same (owners_turn h (e ∷ h) q
              (λ y r away kept. own_kept y r (asks_none e h r.id asked) (ends_none e h y.place ended)
              (frames_there frame turn sent own.last y.place
              (λ k. away (sym (one_name q.id r.id h own.last kept.last k)))) kept)
              s (λ y kept. record {
                last = asks_none e h q.id asked ∙ kept.last;
                open_still = ends_none e h y.place ended ∙ kept.open_still;
                sent = rw (frames_here frame turn sent kept.last y.place refl)
                    (sent_same q s s (sent_more frame (frames y.place h))
                    (sent_turn l t q (frames y.place h) turn was kept.sent));
              })
              (live_after h) b a apart.0 apart.1 told.owners);
          once = λ k. rw (ends_none e h k ended) (told.once k);
          few = few_still x own;
          belongs = (
            record {
              ending = λ y named. (let z : ◌≡◌ {A = ℕ} 0 1 = cc in absurd (omega arith));
              frame = λ bytes named.
                  record { request = x; last = rw (turn_names turn (sym sent ∙ named)) own.last; live = its.2 };
            },
            told.belongs,
          );
          fates = rw (requests_stay e h asked) (all_map (Fate h) (Fate (e ∷ h)) (fate_kept same ended) (requests h) told.fates);
        }
      where
        few_still : (x : Asked) → Own h x q → (k : ℕ) → Few (frames k (e ∷ h))
        few_still x own k =
            by_test (λ at. eqb x.place k ≡ at → Few (frames k (e ∷ h))) (eqb x.place k)
            (λ at k-at.
            let place = eqb-true x.place k k-at in
            let sent-now : Sent q s (sent_more frame (frames k h)) =
            sent_turn l t q (frames k h) turn was (rw (sym place) own.sent) in
            rw (frames_here frame turn sent own.last k place)
            (few_sent t q.wanted q s (sent_more frame (frames k h)) now sent-now))
            (λ at k-at. rw (frames_there frame turn sent own.last k (eqb-false x.place k k-at)) (told.few k))
            refl
