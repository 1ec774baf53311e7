-- What an ACK does, one case a lemma: from the row that was searched, for every ledger with these live requests.
use Prim.Native.Nat.{ℕ}
use mathlib.Core.Bool.{Bool, true, false}
use mathlib.Core.List.{List}
use mathlib.Core.Path.{◌≡◌, refl, ap}
use Rattle.std.specs.Prelude.{Some, None}
use Rattle.std.specs.List.{position}
use Rattle.link.specs.Frames as link
use Rattle.ledger.specs.Parts as ledger
use Rattle.ledger.specs.Parts.{Ledger, Search, oldest}
use Rattle.ledger.specs.Receiving.{acknowledged_in, on_ack}
use Rattle.ledger.specs.declared.Cause.TheVariants.{Acknowledged}
use Rattle.ledger.specs.declared.Word.TheVariants as word
use Rattle.endpoint.specs.Endpoint.{state_of, requests_from}
use Rattle.endpoint.specs.Places.{at}
use Rattle.endpoint.specs.declared.Request.{Request}
use Rattle.endpoint.specs.declared.State.TheVariants.{Waiting}
use Rattle.live_search.specs.Searching.{is_shown}
use Rattle.live_search.proofs.Searched.{Finds, row_at, none_found, one_found, found_row}
use Rattle.live_changes.specs.declared.Change.TheVariants as change
use Rattle.decisions_verdict.specs.Verdicts.{effect_of}

-- the test of the search
abbrev pub acknowledges : (seq : ℕ) → Request → Bool
acknowledges seq q = is_shown (acknowledged_in seq (state_of q.state))

module _ (l : Ledger) (clock : ℕ) (store payload : List ℕ) (rows : List Request) (same : l.live ≡ requests_from 0 rows store) where
  module _ (seq : ℕ) where
    abbrev acknowledged : Search link.Frame
    acknowledged = oldest (λ q. acknowledged_in seq q.state) l.live

    pub ack_stray : position (acknowledges seq) rows ≡ None
        → on_ack l clock acknowledged ≡ effect_of (record { word = Some word.Stray; change = None }) payload l
    ack_stray missing = rw (none_found (λ q. acknowledged_in seq q.state) (acknowledges seq) (λ q b. refl) rows l.live store same missing)

    module _ (row : ℕ) (one : position (acknowledges seq) rows ≡ Some row) where
      abbrev there : Finds (λ q. acknowledged_in seq q.state) l.live row
      there = one_found (λ q. acknowledged_in seq q.state) (acknowledges seq) (λ q b. refl) rows l.live store same one

      is_wanted : (at row l.live).wanted ≡ (row_at rows row).wanted
      is_wanted =
          ap (λ (q : ledger.Request). q.wanted)
          (found_row (λ q. acknowledged_in seq q.state) (acknowledges seq) (λ q b. refl) rows l.live store same one)

      pub ack_waits : (row_at rows row).wanted ≡ true
          → on_ack l clock acknowledged
          ≡ effect_of (record { word = None; change = Some (change.Turn row (Waiting clock)) }) payload l
      ack_waits wanted = rw (there.found, is_wanted, wanted)

      pub ack_ends : (row_at rows row).wanted ≡ false
          → on_ack l clock acknowledged
          ≡ effect_of (record { word = None; change = Some (change.End row Acknowledged) }) payload l
      ack_ends unwanted = rw (there.found, is_wanted, unwanted)
