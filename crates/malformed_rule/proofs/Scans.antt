-- What the scans of the rows come to: whether an ID is live, how many requests are in flight, and one turn of the search for a bad one.
use Prim.Native.Nat.{ℕ, ◌+◌, ◌-◌}
use mathlib.Core.Bool.{Bool, true, false, ◌||◌, cond as if}
use Rattle.std.proofs.Math.Bool.{or_assoc}
use Rattle.std.proofs.lemmas.List.{drop-drop}
use mathlib.Core.List.{List, [], ◌∷◌}
use mathlib.Core.Path.{◌≡◌, refl, sym, ap, ◌∙◌}
use native.Mathlib.Omega.{arith}
use lib.Dec.{eqb}
use lib.ListN.{length, take, drop, length-drop}
use lib.Seq.{take_all}
use Rattle.std.specs.List.{filter, list_any, enumerate_from}
use Rattle.ledger.specs.Submitting.{is_live}
use Rattle.ledger.specs.Refusals.{flights, flies_once}
use Rattle.endpoint.specs.Code.{bad_request, some_bad}
use Rattle.endpoint.specs.Endpoint.{state_of}
use Rattle.endpoint.specs.Malformed.{bare_of}
use Rattle.endpoint.specs.declared.State.{State}
use Rattle.endpoint.specs.declared.State.TheVariants.{Queued, InFlight, Waiting}
use Rattle.endpoint.specs.declared.Request.{Request}

-- an ID is live where some row has it
abbrev pub has : (id : ℕ) → Request → Bool
has id q = eqb q.id.0 id

pub live_any : (id : ℕ) (rows : List Request) → list_any (has id) rows ≡ is_live id (bare_of rows)
unfolding is_live
live_any id [] = refl
live_any id (q ∷ qs) = ap (λ (b : Bool). eqb q.id.0 id || b) (live_any id qs)

-- as many are in flight as rows are
abbrev pub flies : State → Bool
flies Queued = false
flies (InFlight f) = true
flies (Waiting since) = false

one_more : (s : State) (q : Request) (others : List Request) → length (if (flies s) (q ∷ others) others) ≡ flies_once (state_of s) + length others
one_more Queued q others = omega arith
one_more (InFlight f) q others = omega arith
one_more (Waiting since) q others = omega arith

pub flights_filter : (rows : List Request) → length (filter (λ q. flies q.state) rows) ≡ flights (bare_of rows)
unfolding flights
flights_filter [] = refl
flights_filter (q ∷ qs) = one_more q.state q (filter (λ q. flies q.state) qs) ∙ ap (λ (n : ℕ). flies_once (state_of q.state) + n) (flights_filter qs)

-- some row is bad: by itself, or as one behind it has its ID
module _ (r clock : ℕ) (rows : List Request) where
  -- the rows behind one, as the code lends them
  abbrev behind : (place : ℕ) → List Request
  behind i = take (length rows - (i + 1)) (drop (i + 1) rows)

  abbrev pub bad_at : ℕ × Request → Bool
  bad_at p = bad_request r clock p.1 || is_live p.1.id.0 (bare_of (behind p.0))

  bad_from : (i : ℕ) (later : List Request) → later ≡ drop i rows → list_any bad_at (enumerate_from i later) ≡ some_bad r clock later
  unfolding some_bad
  bad_from i [] is = refl
  bad_from i (q ∷ qs) is =
      let rest : qs ≡ drop (i + 1) rows = ap (drop 1) is ∙ drop-drop 1 i rows in
      let all : behind i ≡ qs = take_all (length rows - (i + 1)) (drop (i + 1) rows) (omega (arith, length-drop {A = Request})) ∙ sym rest in
      rw (all, bad_from (i + 1) qs rest)
      (or_assoc (bad_request r clock q) (is_live q.id.0 (bare_of qs)) (some_bad r clock qs))

  pub bad_any : list_any bad_at (enumerate_from 0 rows) ≡ some_bad r clock rows
  bad_any = bad_from 0 rows refl
