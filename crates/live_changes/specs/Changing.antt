-- What a change makes of the live requests, as lists; and what the functions promise of the rows and of the store.
use Rattle.std.specs.Prelude as std
use Rattle.std.specs.Prelude.{ℕ, ◌<◌, List, ◌∷◌, ◌++◌, ◌≡◌, take, Some, None}
use Rattle.std.proofs.Math.Option.{Option, none, some}
use Rattle.line.specs.Receiving.{held_max}
use Rattle.ledger.specs.Parts.{Request, with_state}
use Rattle.ledger.specs.Answers as ledger
use Rattle.ledger.specs.Promises.{cause_of}
use Rattle.endpoint.specs.Endpoint.{state_of, live_of}
use Rattle.endpoint.specs.Places.{at, after, Fits}
use Rattle.endpoint.specs.declared.Requests.{Requests}
use Rattle.live_changes.specs.declared.Change.{Change}
use Rattle.live_changes.specs.declared.Change.TheVariants.{Turn, End}

-- what becomes of the live requests by a change, if any, and the ending
abbrev pub changed : std.Option Change → List Request → List Request
changed None live = live
changed (Some (Turn i s)) live = take i live ++ (with_state (state_of s) (at i live) ∷ after i live)
changed (Some (End i cause)) live = take i live ++ after i live

abbrev pub ending_by : std.Option Change → List Request → Option ledger.Ending
ending_by None live = none
ending_by (Some (Turn i s)) live = none
ending_by (Some (End i cause)) live = some (record { id = (at i live).id; cause = cause_of cause })

-- the place that a change names is one of a number
abbrev pub Names : std.Option Change → (count : ℕ) → Type 0
Names None count = Unit
Names (Some (Turn i s)) count = i < count
Names (Some (End i cause)) count = i < count

-- what a change promises of the rows and of the store: the live requests afterwards, and the held bytes as they were
pub record Becomes (next : Requests) (live : List Request) (entry exit : List ℕ) : Type 0 where
  pub lists : live_of next exit ≡ live
  pub fits : Fits next
  pub holds : take held_max exit ≡ take held_max entry
