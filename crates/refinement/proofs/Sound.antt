-- The endpoint's malformed rule and the ledger's agree, so that a call is refused on both alike and an accepted one leaves an endpoint
-- that is not malformed.
use Prim.Native.Nat.{ℕ, ◌≤◌}
use mathlib.Core.Bool.{false}
use mathlib.Core.List.{List}
use mathlib.Core.Option.{none}
use mathlib.Core.Path.{◌≡◌, sym, ap, ◌∙◌}
use native.Mathlib.Omega.{arith}
use lib.ListN.{length, take, length-take}
use borrow.Author.Tests.{le-ltb}
use Rattle.line.specs.Receiving.{held_max}
use Rattle.ledger.specs.Parts.{reserved_max, live_max}
use Rattle.ledger.specs.Calls.{Call}
use Rattle.ledger.specs.Refusals as ledger
use Rattle.ledger.specs.Refusals.{is_outside, flights, wrongly_often, waits_for_nothing, is_late, refusal}
use Rattle.ledger.specs.Runs.{accepts, answers_to, step}
use Rattle.claims.proofs.Fine.{Fine, fine_step, not_malformed}
use Rattle.claims.proofs.SoundFine.{clauses, fine_of}
use Rattle.claims.proofs.Laws.{three_are_few}
use Rattle.claims.proofs.Views.{view}
use Rattle.endpoint.specs.Endpoint.{rows_of, live_of, ledger_of}
use Rattle.endpoint.specs.Malformed.{malformed}
use Rattle.endpoint.specs.Places.{Fits}
use Rattle.endpoint.specs.declared.Endpoint.{Endpoint}
use Rattle.endpoint.proofs.Order.{facts, from_facts}
use Rattle.endpoint.proofs.Listed.{length_requests}
use Rattle.refinement.specs.Refusals.{refusal_of}
use Rattle.refinement.proofs.Rows.{same_some, same_equal, same_flights, short_data}

-- where the endpoint is not malformed, neither is its ledger, whatever the store holds
pub ledger_sound : (e : Endpoint) (store : List ℕ) → malformed e ≡ false → ledger.malformed live_max (ledger_of e store) ≡ false
unfolding ledger.malformed
ledger_sound e store h =
    let f = facts {e = e} h in
    let rows = rows_of e.live in
    let live = live_of e.live store in
    let flying = f.flying in
    let few : length live ≤ live_max = simp (length_requests, length-take) (omega arith) in
    let held : length (take e.held store) ≤ held_max = simp length-take (omega arith) in
    rw (
      le-ltb reserved_max e.reserved f.reserved,
      le-ltb live_max (length live) few,
      same_some store (λ id w s. is_outside e.reserved id) 0 rows ∙ f.ids,
      f.next,
      same_equal store 0 rows ∙ f.unequal,
      le-ltb 1 (flights live) (rw (same_flights store 0 rows) flying),
      same_some store (λ id w s. wrongly_often s) 0 rows ∙ f.often,
      short_data store 0 rows f.short,
      same_some store (λ id w s. waits_for_nothing w s) 0 rows ∙ f.wants,
      same_some store (λ id w s. is_late e.clock s) 0 rows ∙ f.times,
      le-ltb held_max (length (take e.held store)) held,
    )

-- and the other way round, where the rows are within their array, the data within their rooms and the held bytes within their place
pub endpoint_sound : (e : Endpoint) (store : List ℕ) → Fits e.live → e.held ≤ held_max
    → ledger.malformed live_max (ledger_of e store) ≡ false → malformed e ≡ false
endpoint_sound e store fits held h =
    let k = clauses live_max (ledger_of e store) h in
    let rows = rows_of e.live in
    let flying = k.flying in
    from_facts (record {
      reserved = k.reserved;
      few = fits.few;
      ids = sym (same_some store (λ id w s. is_outside e.reserved id) 0 rows) ∙ k.ids;
      next = k.next;
      unequal = sym (same_equal store 0 rows) ∙ k.unequal;
      flying = rw (same_flights store 0 rows) at flying;
      often = sym (same_some store (λ id w s. wrongly_often s) 0 rows) ∙ k.often;
      short = fits.short;
      wants = sym (same_some store (λ id w s. waits_for_nothing w s) 0 rows) ∙ k.wants;
      times = sym (same_some store (λ id w s. is_late e.clock s) 0 rows) ∙ k.times;
      held = held;
    })

-- a call is refused on the endpoint as on its ledger
pub same_refusal : (e : Endpoint) (store : List ℕ) (c : Call) → malformed e ≡ false
    → refusal_of e store c ≡ refusal live_max (ledger_of e store) c
same_refusal e store c h = rw (h, ledger_sound e store h)

-- an accepted call leaves an endpoint that is not malformed
pub next_sound : (e next : Endpoint) (store exit : List ℕ) (c : Call) → malformed e ≡ false → refusal_of e store c ≡ none
    → ledger_of next exit ≡ (accepts (ledger_of e store) c).next → Fits next.live → next.held ≤ held_max → malformed next ≡ false
unfolding step
next_sound e next store exit c h passes same fits held =
    let l = ledger_of e store in
    let accepted : refusal live_max l c ≡ none = sym (same_refusal e store c h) ∙ passes in
    let done : step live_max l c ≡ accepts l c = ap (answers_to l c) accepted in
    let fine : Fine live_max (step live_max l c).next =
    fine_step live_max three_are_few l c (fine_of live_max l (ledger_sound e store h)) (view live_max l c) in
    let after : Fine live_max (ledger_of next exit) = rw (same, ← done) fine in
    endpoint_sound next exit fits held (not_malformed live_max (ledger_of next exit) after)

-- what a call on an endpoint that is not malformed may rely on: its limits, and that its rows fit; `Times.antt` has its times
module _ (e : Endpoint) (h : malformed e ≡ false) where
  pub few_of : e.live.count ≤ live_max
  few_of = (facts {e = e} h).few

  pub reserved_of : e.reserved ≤ reserved_max
  reserved_of = (facts {e = e} h).reserved

  pub held_of : e.held ≤ held_max
  held_of = (facts {e = e} h).held

  pub fits_of : Fits e.live
  fits_of = record { few = (facts {e = e} h).few; short = (facts {e = e} h).short }
