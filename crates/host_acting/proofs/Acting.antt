-- What the line's decision, the settled bytes and a change of the live requests come to: what the ledger does by a verdict.
use Prim.Native.Nat.{ℕ, ◌≤◌}
use mathlib.Core.List.{List}
use mathlib.Core.Path.{◌≡◌, refl, ap, ◌∙◌}
use native.Mathlib.Omega.{arith}
use lib.ListN.{length, take, drop}
use Rattle.message.specs.Writing.{placed}
use Rattle.line.specs.Receiving as line
use Rattle.line.specs.Receiving.{held_max}
use Rattle.line.specs.declared.Decision.{Decision}
use Rattle.ledger.specs.Receiving.{received_as}
use Rattle.endpoint.specs.Endpoint.{ledger_of, live_of}
use Rattle.endpoint.specs.declared.Endpoint.{Endpoint}
use Rattle.endpoint.specs.declared.Requests.{Requests}
use Rattle.live_changes.specs.Changing.{changed, ending_by, Becomes}
use Rattle.decisions_verdict.specs.Verdicts.{bytes_for, act_of}
use Rattle.decisions_verdict.specs.declared.Verdict.{Verdict}
use Rattle.host_answers.specs.Answers.{ended_of, Received}
use Rattle.host_answers.specs.Promises.{receive_result}
use Rattle.host_answers.specs.Code.{Does, DecidesIn}
use Rattle.ledger.specs.declared.Ending.{Ending}
use Rattle.std.specs.Prelude.{Option, Ok}
use Rattle.host_answers.proofs.Held.{same_live, held_same}

-- the bytes to be held stand at the front of a store, and what is behind it stays
pub record Settled (d : Decision) (held : ℕ) (entry exit : List ℕ) : Type 0 where
  pub counts : held ≡ d.count
  pub stands : take held exit ≡ take d.count (drop d.start (take held_max entry))
  pub rooms : drop held_max exit ≡ drop held_max entry

-- what is handed back
abbrev pub handed_back : Endpoint → (clock : ℕ) → Decision → Verdict → Option Ending → Requests → (held replied : ℕ) → Received
handed_back e clock d v ending live held replied = record {
  answer = Ok (record { item = d.answer; word = v.word; taken = d.taken; replied = replied; ending = ending });
  endpoint = record {
    live = live;
    reserved = e.reserved;
    clock = clock;
    seq = e.seq;
    next = e.next;
    seen = v.seen;
    held = held;
  };
}

module _ (e : Endpoint) (clock : ℕ) (d : Decision) (v : Verdict) (ending : Option Ending) (own live : Requests) (held replied : ℕ)
    (entry new middle settled exit words payload reply buffer : List ℕ) where
  pub acted : own ≡ e.live → DecidesIn d e.held new entry middle → length words ≡ replied → Settled d held middle settled
      → ((store : List ℕ) → ended_of ending ≡ ending_by v.change (live_of own store))
      → Becomes live (changed v.change (live_of own settled)) settled exit
      → Does (received_as (ledger_of e entry) (line.receive (take e.held entry) new)
      (act_of v words payload (live_of e.live entry)) reply buffer clock)
      (receive_result (handed_back e clock d v ending live held replied) exit (placed 0 words reply)
      (placed 0 (bytes_for v.word payload) buffer))
  acted its decided size settles ended becomes =
      let few : held ≤ held_max = omega (arith, decided.decides.within, settles.counts) in
      let front : take held exit ≡ (line.receive (take e.held entry) new).held =
      held_same held settled exit few becomes.holds ∙ settles.stands ∙ ap (λ (x : line.Received). x.held) decided.decides.gives in
      let rooms : live_of own settled ≡ live_of e.live entry = rw its (same_live entry settled (settles.rooms ∙ decided.rooms) e.live) in
      let lists : live_of live exit ≡ changed v.change (live_of e.live entry) = rw rooms at becomes.lists in
      let its_ending : ended_of ending ≡ ending_by v.change (live_of e.live entry) = rw its at (ended entry) in
      record {
        answers = rw (← decided.decides.gives, ← its_ending, size);
        leaves = refl;
        next = rw (front, lists);
        fits = becomes.fits;
        holds = few;
      }
