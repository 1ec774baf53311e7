-- What a request that joins comes to: what the ledger does by an accepted submit.
use Prim.Native.Nat.{ℕ, ◌≤◌, ◌<◌}
use mathlib.Core.Bool.{Bool, true, false}
use mathlib.Core.List.{List, [], ◌∷◌, ◌++◌}
use mathlib.Core.Option.{none}
use mathlib.Core.Path.{◌≡◌, refl, sym, ap, ◌∙◌}
use native.Mathlib.Omega.{arith}
use lib.Dec.{eqb, ltb}
use lib.ListN.{length}
use borrow.Author.Tests.{eqb-false, ltb-false}
use Rattle.command.specs.Payload as payload
use Rattle.command.specs.Payload.{max_data}
use Rattle.command.specs.Promises.{fields_of}
use Rattle.command.specs.declared.Fields.{Fields}
use Rattle.command.specs.declared.RequestId.{RequestId}
use Rattle.ledger.specs.Parts.{live_max}
use Rattle.ledger.specs.Submitting.{id_after, first_free, issued, submit}
use Rattle.ledger.specs.Calls as call
use Rattle.ledger.specs.Refusals.{line, first_of}
use Rattle.endpoint.specs.Endpoint.{request_of, rows_of, live_of, ledger_of}
use Rattle.endpoint.specs.Malformed.{bare_of, malformed}
use Rattle.endpoint.specs.declared.Endpoint.{Endpoint}
use Rattle.endpoint.specs.declared.Request.{Request}
use Rattle.endpoint.specs.declared.Requests.{Requests}
use Rattle.endpoint.specs.declared.State.TheVariants.{Queued}
use Rattle.endpoint.proofs.Listed.{length_requests}
use Rattle.live_changes.specs.Changing.{Becomes}
use Rattle.live_changes.proofs.Becoming.{length_live}
use Rattle.live_ids.proofs.FirstFree.{free_rows}
use Rattle.refinement.specs.Refusals.{refusal_of}
use Rattle.refinement.proofs.Sound.{few_of, held_of, fits_of}
use Rattle.host_answers.specs.Promises.{submit_result}
use Rattle.refusals.specs.Code.{with_endpoint}
use Rattle.host_answers.specs.Code.{Does}
use Rattle.host_answers.specs.declared.accepted.Accepted.{Accepted}
use Rattle.std.specs.Prelude.{Ok}
use Rattle.host_answers.proofs.Held.{held_same}
use Rattle.refusals.proofs.Table.{first_holds, passed, own_passed}

module _ (accepted : Accepted) (fields : Fields) (wanted : Bool) (store bytes : List ℕ) where
  abbrev e : Endpoint
  e = accepted.e

  -- the ID that the code has found among the rows is the ledger's
  found_id : (id : RequestId) → id.0 ≡ first_free (length (rows_of e.live)) e.reserved (bare_of (rows_of e.live)) e.next.0
      → id.0 ≡ issued (ledger_of e store)
  found_id id found =
      found
      ∙ sym (ap (λ (n : ℕ). first_free n e.reserved (live_of e.live store) e.next.0) (length_requests 0 (rows_of e.live) store)
      ∙ free_rows (length (rows_of e.live)) e.reserved (rows_of e.live) 0 store e.next.0)

  -- the request that joins
  abbrev pub joining : RequestId → Request
  joining id = record { id = id; fields = fields; wanted = wanted; len = length bytes; state = Queued }

  -- what is handed back
  abbrev pub handed_back : (id next : RequestId) (live : Requests) → Endpoint
  handed_back id next live = record {
    live = live;
    reserved = e.reserved;
    clock = accepted.clock;
    seq = e.seq;
    next = next;
    seen = e.seen;
    held = e.held;
  }

  -- by the rows, R and the live requests that the code works with
  pub joined : (rows : List Request) (r : ℕ) (own : Requests) → rows ≡ rows_of e.live → r ≡ e.reserved → own ≡ e.live
      → (id next : RequestId) (live : Requests) (exit : List ℕ)
      → id.0 ≡ first_free (length rows) r (bare_of rows) e.next.0
      → Becomes live (live_of own store ++ (request_of (joining id) bytes ∷ [])) store exit
      → next.0 ≡ id_after r id.0
      → Does (submit (ledger_of e store) (fields_of fields) bytes wanted accepted.clock)
      (submit_result (record { answer = Ok id; endpoint = handed_back id next live }) exit)
  joined rows r own in_use kept its id next live exit found becomes later =
      let same = found_id id (rw (in_use, kept) at found) in
      let few = held_of e accepted.sound.sound in
      let held = held_same e.held store exit few becomes.holds in
      let lists = rw its at becomes.lists in
      let after = rw kept at later in
      record {
        answers = rw same;
        leaves = refl;
        next = rw (lists, after, held, same);
        fits = becomes.fits;
        holds = few;
      }

-- the table as submit tests it: where the endpoint is not malformed, as many are live as it counts
pub submit_table : (e : Endpoint) (store : List ℕ) (fields : payload.Fields) (bytes : List ℕ) (wanted : Bool) (clock : ℕ)
    → length e.live.rows ≡ live_max
    → first_of (with_endpoint e clock (line 4 (ltb max_data (length bytes)) ∷ line 5 (eqb e.live.count live_max) ∷ []))
    ≡ refusal_of e store (call.submit fields bytes wanted clock)
submit_table e store fields bytes wanted clock three = go (malformed e) refl
  where
    go : (b : Bool) → malformed e ≡ b
        → first_of (with_endpoint e clock (line 4 (ltb max_data (length bytes)) ∷ line 5 (eqb e.live.count live_max) ∷ []))
        ≡ refusal_of e store (call.submit fields bytes wanted clock)
    go true bad = first_holds 1 (malformed e) _ bad ∙ sym (first_holds 1 (malformed e) _ bad)
    go false fine = rw (length_live e.live three (fits_of e fine) store)

-- an accepted submit has room for its data and its request
pub record Room (e : Endpoint) (bytes : List ℕ) : Type 0 where
  pub short : length bytes ≤ max_data
  pub free : e.live.count < live_max

pub room_of : (e : Endpoint) (bytes : List ℕ) (clock : ℕ)
    → first_of (with_endpoint e clock (line 4 (ltb max_data (length bytes)) ∷ line 5 (eqb e.live.count live_max) ∷ [])) ≡ none
    → Room e bytes
room_of e bytes clock h =
    let p = passed e clock _ h in
    let first = own_passed 4 (ltb max_data (length bytes)) _ p.rest in
    let second = own_passed 5 (eqb e.live.count live_max) [] first.1 in
    let few = few_of e p.fine in
    let less = eqb-false e.live.count live_max second.0 in
    record { short = ltb-false max_data (length bytes) first.0; free = omega (arith, less) }
