-- What a message does by its TYPE, one case a lemma: from what its own function says of the requests, and what is remembered.
use Prim.Native.Nat.{ℕ}
use mathlib.Core.Bool.{true, false}
use mathlib.Core.List.{List}
use mathlib.Core.Path.{◌≡◌, refl, ap}
use lib.ListN.{length}
use native.Mathlib.Omega.{arith}
use borrow.Author.Tests.{ne_eqb}
use Rattle.std.specs.Prelude.{Option, Some, None}
use Rattle.std.proofs.lemmas.List.{length-take}
use Rattle.link.specs.Promises.{seen_of}
use Rattle.link.specs.Repeats.{is_repeat, seen_after}
use Rattle.link.specs.declared.repeats.Seen.{Seen}
use Rattle.message.specs.Bytes.{ack, nak, data_seq}
use Rattle.ledger.specs.Parts.{Ledger, oldest}
use Rattle.ledger.specs.Receiving.{flies, acknowledged_in, on_ack, on_nak, on_data, on_message}
use Rattle.ledger.specs.declared.Word.TheVariants as word
use Rattle.endpoint.specs.Endpoint.{ledger_of, rows_of, requests_from}
use Rattle.endpoint.specs.declared.Endpoint.{Endpoint}
use Rattle.endpoint.specs.declared.Request.{Request}
use Rattle.endpoint.specs.declared.Requests.{Requests}
use Rattle.live_changes.specs.Changing.{Names}
use Rattle.live_changes.specs.declared.Change.{Change}
use Rattle.live_changes.specs.declared.Change.TheVariants.{Turn, End}
use Rattle.decisions_verdict.specs.Verdicts.{effect_of, Judges}
use Rattle.decisions_verdict.specs.declared.Effect.{Effect}
use Rattle.decisions_verdict.specs.declared.Verdict.{Verdict}
use Rattle.decisions_verdict.proofs.Laws.{with_seen}

-- a change that names a row in use names one of the count
names_in_count : (live : Requests) (change : Option Change) → Names change (length (rows_of live)) → Names change live.count
names_in_count live None named = tt
names_in_count live (Some (Turn row state)) named = omega (arith, length-take {A = Request})
names_in_count live (Some (End row cause)) named = omega (arith, length-take {A = Request})

named : (live : Requests) (rows : List Request) → rows ≡ rows_of live → {change next : Option Change} → next ≡ change → Names change (length rows)
    → Names next live.count
named live rows in_use {change} same here = rw same (names_in_count live change (rw in_use at here))

-- what data do, of an endpoint with these rows in use
abbrev pub DataDo : Effect → Endpoint → (rows : List Request) (payload : List ℕ) → Type 0
DataDo f e rows payload =
    ((l : Ledger) (clock : ℕ) (store : List ℕ) → l.live ≡ requests_from 0 rows store → l.reserved ≡ e.reserved
    → on_data l clock payload ≡ effect_of f payload l)
    × Names f.change (length rows)

module _ {e : Endpoint} {type seq clock : ℕ} {payload : List ℕ} {rows : List Request} (in_use : rows ≡ rows_of e.live) {f : Effect} {v : Verdict} where
  pub ack_judges : v ≡ with_seen f e.seen → type ≡ ack
      → ((l : Ledger) (store payload : List ℕ) → l.live ≡ requests_from 0 rows store
      → on_ack l clock (oldest (λ q. acknowledged_in seq q.state) l.live) ≡ effect_of f payload l)
      × Names f.change (length rows)
      → Judges v e type seq payload clock
  unfolding on_message
  ack_judges is is-ack does = record {
    acts = λ store. rw (is, is-ack, does.0 (ledger_of e store) store payload (rw in_use));
    names = named e.live rows in_use (ap (λ (v : Verdict). v.change) is) does.1;
  }

  pub nak_judges : v ≡ with_seen f e.seen → type ≡ nak
      → ((l : Ledger) (clock : ℕ) (store payload : List ℕ) → l.live ≡ requests_from 0 rows store
      → on_nak l clock (oldest flies l.live) ≡ effect_of f payload l)
      × Names f.change (length rows)
      → Judges v e type seq payload clock
  unfolding on_message
  nak_judges is is-nak does = record {
    acts = λ store. rw (is, is-nak, does.0 (ledger_of e store) clock store payload (rw in_use));
    names = named e.live rows in_use (ap (λ (v : Verdict). v.change) is) does.1;
  }

  pub repeat_judges : v ≡ with_seen f e.seen → type ≡ data_seq → f ≡ record { word = Some word.Repeat; change = None }
      → is_repeat (seen_of e.seen) seq ≡ true → Judges v e type seq payload clock
  unfolding on_message
  repeat_judges is is-sequenced says again = record {
    acts = λ store. rw (is, is-sequenced, says, again);
    names = rw (is, says) tt;
  }

  pub sequenced_judges : {next : Seen} → v ≡ with_seen f next → type ≡ data_seq → is_repeat (seen_of e.seen) seq ≡ false
      → seen_of next ≡ seen_after (seen_of e.seen) seq → DataDo f e rows payload → Judges v e type seq payload clock
  unfolding on_message
  sequenced_judges is is-sequenced new is-next does = record {
    acts = λ store. rw (is, is-sequenced, new, is-next, does.0 (ledger_of e store) clock store (rw in_use) refl);
    names = named e.live rows in_use (ap (λ (v : Verdict). v.change) is) does.1;
  }

  pub other_judges : v ≡ with_seen f e.seen → (type ≡ ack → ⊥) → (type ≡ nak → ⊥) → (type ≡ data_seq → ⊥) → DataDo f e rows payload
      → Judges v e type seq payload clock
  unfolding on_message
  other_judges is no-ack no-nak no-seq does = record {
    acts = λ store. rw (
      is,
      ne_eqb type ack no-ack,
      ne_eqb type nak no-nak,
      ne_eqb type data_seq no-seq,
      does.0 (ledger_of e store) clock store (rw in_use) refl,
    );
    names = named e.live rows in_use (ap (λ (v : Verdict). v.change) is) does.1;
  }
