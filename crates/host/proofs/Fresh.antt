-- A fresh endpoint stands for the fresh ledger and is not malformed; and which one open hands back.
use Prim.Native.Nat.{ℕ, suc, ◌≤◌, ◌<◌}
use mathlib.Core.Bool.{false}
use mathlib.Core.List.{List, []}
use mathlib.Core.Path.{◌≡◌, ap, ◌∙◌}
use native.Mathlib.Omega.{arith}
use lib.Dec.{ltb}
use borrow.Author.Tests.{lt-ltb, le-ltb}
use Rattle.link.specs.Promises.{seen_of}
use Rattle.link.specs.Repeats.{none_seen}
use Rattle.link.specs.SequenceIds.{first_seq}
use Rattle.ledger.specs.Parts.{live_max, reserved_max, fresh}
use Rattle.ledger.specs.Answers.{refused, opened}
use Rattle.ledger.specs.Refusals as ledger
use Rattle.ledger.specs.Runs.{open_for, opened_by}
use Rattle.claims.proofs.Fine.{fresh_fine, not_malformed}
use Rattle.endpoint.specs.Endpoint.{requests_from, ledger_of}
use Rattle.endpoint.specs.Malformed.{too_long, malformed}
use Rattle.endpoint.specs.Places.{Fits}
use Rattle.endpoint.specs.declared.Endpoint.{Endpoint}
use Rattle.refinement.proofs.Sound.{endpoint_sound}
use Rattle.std.specs.Prelude.{Ok, Err}
use Rattle.ledger.specs.declared.Refusal.TheVariants.{ReservedOver}
use Rattle.host_answers.specs.Promises as promise
use Rattle.refusals.proofs.Table.{first_holds, first_fails, no_line}

-- an endpoint with the numbers of a fresh one
module _ (e : Endpoint) (r : ℕ) (none-live : e.live.count ≡ 0) (same : e.reserved ≡ r) (start : e.clock ≡ 0)
    (first : e.seq.0 ≡ first_seq) (next : e.next.0 ≡ suc r) (seen : seen_of e.seen ≡ none_seen) (empty : e.held ≡ 0) where
  pub fresh_ledger : (store : List ℕ) → ledger_of e store ≡ fresh r
  unfolding requests_from
  fresh_ledger store = rw (none-live, same, start, first, next, seen, empty)

  fits : Fits e.live
  unfolding too_long
  fits = record { few = omega arith; short = rw none-live }

  pub made : r ≤ reserved_max → ((store : List ℕ) → ledger_of e store ≡ fresh r) × (malformed e ≡ false)
  made small = (
    fresh_ledger,
    endpoint_sound e [] fits (omega arith)
        (ap (ledger.malformed live_max) (fresh_ledger []) ∙ not_malformed live_max (fresh r) (fresh_fine live_max r small)),
  )

-- what open comes to
pub open_refused : (given : ℕ) → reserved_max < given
    → open_for given ≡ record { answer = refused 3; buffers = []; next = fresh 0 }
open_refused given over = ap (opened_by given) (first_holds 3 (ltb reserved_max given) [] (lt-ltb reserved_max given over))

pub open_accepted : (given : ℕ) → given ≤ reserved_max → open_for given ≡ record { answer = opened; buffers = []; next = fresh given }
open_accepted given within =
    ap (opened_by given) (first_fails 3 (ltb reserved_max given) [] (le-ltb reserved_max given within) ∙ no_line)

-- what open promises, with a fresh endpoint
module _ (given : ℕ) (e : Endpoint) where
  pub promised_refused : reserved_max < given → ((store : List ℕ) → ledger_of e store ≡ fresh 0) × (malformed e ≡ false)
      → promise.Opened (record { answer = Err ReservedOver; endpoint = e }) given
  promised_refused over is_fresh =
      let comes = open_refused given over in
      record { answers = rw comes; next = rw comes is_fresh.0; sound = is_fresh.1 }

  pub promised_accepted : given ≤ reserved_max → ((store : List ℕ) → ledger_of e store ≡ fresh given) × (malformed e ≡ false)
      → promise.Opened (record { answer = Ok tt; endpoint = e }) given
  promised_accepted within is_fresh =
      let comes = open_accepted given within in
      record { answers = rw comes; next = rw comes is_fresh.0; sound = is_fresh.1 }
