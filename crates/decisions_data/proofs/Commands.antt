-- What data do, one case a lemma: from what the reader answered, the RQID and the row that was searched.
use Prim.Native.Nat.{ℕ}
use mathlib.Core.Bool.{Bool, true, false, ◌&&◌, cond as if}
use mathlib.Core.List.{List, []}
use mathlib.Core.Option.{none}
use mathlib.Core.Path.{◌≡◌, refl, sym, ap, ◌∙◌}
use lib.Dec.{leb}
use lib.ListN.{length}
use Rattle.std.specs.Prelude.{Option, Some, None}
use Rattle.std.specs.List.{position}
use Rattle.command.specs.Payload.{is_command, fields_in, rqid_in, data_in}
use Rattle.command.specs.Promises as command
use Rattle.command.specs.Promises.{fields_of}
use Rattle.command.specs.declared.Fields.{Fields}
use Rattle.command.specs.declared.RequestId.{RequestId}
use Rattle.command.specs.declared.Head.{Head}
use Rattle.ledger.specs.Parts.{Ledger, Search, oldest}
use Rattle.ledger.specs.Answers as answer
use Rattle.ledger.specs.Promises.{command_of}
use Rattle.ledger.specs.Receiving as receiving
use Rattle.ledger.specs.Receiving.{provided, matches, command_in, on_response, on_data}
use Rattle.ledger.specs.declared.Cause.TheVariants.{Response}
use Rattle.ledger.specs.declared.Command.{Command}
use Rattle.ledger.specs.declared.Word.TheVariants as word
use Rattle.endpoint.specs.Endpoint.{request_of, requests_from}
use Rattle.endpoint.specs.declared.Request.{Request}
use Rattle.live_search.specs.Searching.{command_with}
use Rattle.live_search.proofs.Searched.{Asks, matched, match_asks, none_found, one_found}
use Rattle.live_changes.specs.declared.Change.TheVariants as change
use Rattle.decisions_verdict.specs.Verdicts.{effect_of}
use Rattle.decisions_verdict.specs.declared.Effect.{Effect}

-- a command: an event, or the request that it answers
abbrev pub event : Ledger → (payload : List ℕ) → answer.Command → receiving.Act
event l payload c =
    record { word = answer.event c; reply = []; ending = none; bytes = data_in payload; seen = l.seen; live = l.live }

abbrev pub answering : Ledger → answer.Command → Search (Unit {0})
answering l c = oldest (λ q. provided (matches c q) tt) l.live

-- the test of the search
abbrev pub answered : Command → Request → Bool
answered it q = matches (command_with (fields_of it.fields) it.id.0 0) (request_of q [])

module _ (l : Ledger) (clock : ℕ) (store payload : List ℕ) (rows : List Request) (same : l.live ≡ requests_from 0 rows store) (it : Command) where
  abbrev response : receiving.Act
  response = on_response l clock (command_of it) (data_in payload) (answering l (command_of it))

  abbrev asks : Asks (matched (command_of it)) (answered it)
  asks = match_asks (command_of it) it.fields it.id refl refl

  pub response_unmatched : position (answered it) rows ≡ None
      → response ≡ effect_of (record { word = Some (word.Unmatched it); change = None }) payload l
  response_unmatched missing = rw (none_found (matched (command_of it)) (answered it) asks rows l.live store same missing)

  pub response_ends : (row : ℕ) → position (answered it) rows ≡ Some row
      → response ≡ effect_of (record { word = Some (word.Response it); change = Some (change.End row Response) }) payload l
  response_ends row one = rw (one_found (matched (command_of it)) (answered it) asks rows l.live store same one).found

-- data of either kind
not_command_law : (payload : List ℕ) (b : Bool) → command.not_command ≡ if b (command.command (fields_in payload) (rqid_in payload)) command.not_command
    → b ≡ false
not_command_law payload true h = cc
not_command_law payload false h = refl

is_command_law : (payload : List ℕ) (fields : Fields) (id : RequestId) (b : Bool)
    → command.command (fields_of fields) id.0 ≡ if b (command.command (fields_in payload) (rqid_in payload)) command.not_command
    → (b ≡ true) × (fields_of fields ≡ fields_in payload) × (id.0 ≡ rqid_in payload)
is_command_law payload fields id true h = (refl, cc, cc)
is_command_law payload fields id false h = (cc, cc, cc)

module _ (payload : List ℕ) {r : Option Head} (read : command.command_of r ≡ command.command_in payload) where
  pub read_none : r ≡ None → is_command payload ≡ false
  unfolding command.command_in
  read_none is = not_command_law payload (is_command payload) (sym (ap command.command_of is) ∙ read)

  -- the command that was read
  module _ {head : Head} (is : r ≡ Some head) {len : ℕ} (long : len ≡ length (data_in payload)) where
    abbrev pub it : Command
    it = record { fields = head.fields; id = head.id; len = len }

    pub read_command : (is_command payload ≡ true) × (command_of it ≡ command_in payload)
    unfolding command.command_in
    read_command =
        let told = is_command_law payload head.fields head.id (is_command payload) (sym (ap command.command_of is) ∙ read) in
        (told.0, rw (told.1, told.2, long))

-- what a command does
abbrev pub on_command : Ledger → (clock : ℕ) (payload : List ℕ) → answer.Command → receiving.Act
on_command l clock payload c =
    if (leb 1 c.rqid && leb c.rqid l.reserved) (event l payload c) (on_response l clock c (data_in payload) (answering l c))

on_command_law : (l : Ledger) (clock : ℕ) (payload : List ℕ) → is_command payload ≡ true
    → on_data l clock payload ≡ on_command l clock payload (command_in payload)
unfolding on_data
on_command_law l clock payload h = rw h

module _ (l : Ledger) (clock : ℕ) (payload : List ℕ) {r : Option Head} (read : command.command_of r ≡ command.command_in payload) where
  pub data_none : r ≡ None → on_data l clock payload ≡ effect_of (record { word = Some word.NotCommand; change = None }) payload l
  unfolding on_data
  data_none is = rw (read_none payload read is)

  module _ {head : Head} (is : r ≡ Some head) {len : ℕ} (long : len ≡ length (data_in payload)) {reserved : ℕ} (same : l.reserved ≡ reserved) where
    abbrev the_command : Command
    the_command = it payload read is long

    as_told : on_data l clock payload ≡ on_command l clock payload (command_of the_command)
    as_told =
        let told = read_command payload read is long in
        on_command_law l clock payload told.0 ∙ ap (on_command l clock payload) (sym told.1)

    pub data_event : (leb 1 head.id.0 && leb head.id.0 reserved) ≡ true
        → on_data l clock payload ≡ effect_of (record { word = Some (word.Event the_command); change = None }) payload l
    data_event h = as_told ∙ rw (same, h)

    pub data_other : (leb 1 head.id.0 && leb head.id.0 reserved) ≡ false → (e : Effect)
        → on_response l clock (command_of the_command) (data_in payload) (answering l (command_of the_command)) ≡ effect_of e payload l
        → on_data l clock payload ≡ effect_of e payload l
    data_other h e does = as_told ∙ rw (same, h) does
