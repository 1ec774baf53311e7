-- What the verdict on a message does to a ledger.
use Rattle.std.specs.Prelude.{ℕ, cond as if, Option, Some, None, List, [], ◌≡◌, eqb}
use Rattle.message.specs.Bytes.{data_seq}
use Rattle.command.specs.Payload.{data_in}
use Rattle.link.specs.Promises.{seen_of}
use Rattle.ledger.specs.Parts.{Request, Ledger}
use Rattle.ledger.specs.Promises.{word_of}
use Rattle.ledger.specs.Receiving as receiving
use Rattle.ledger.specs.Receiving.{ack_message, on_message}
use Rattle.ledger.specs.declared.Word.{Word}
use Rattle.ledger.specs.declared.Word.TheVariants.{Stray, Repeat, NotCommand, Event, Response, Unmatched}
use Rattle.endpoint.specs.Endpoint.{ledger_of, live_of}
use Rattle.endpoint.specs.declared.Endpoint.{Endpoint}
use Rattle.live_changes.specs.Changing.{changed, ending_by, Names}
use Rattle.decisions_verdict.specs.declared.Verdict.{Verdict}
use Rattle.decisions_verdict.specs.declared.Effect.{Effect}

-- the bytes for the data buffer, by the word: "Events and responses put their data at the front"
abbrev pub bytes_for : Option Word → (payload : List ℕ) → List ℕ
bytes_for None payload = []
bytes_for (Some Stray) payload = []
bytes_for (Some Repeat) payload = []
bytes_for (Some NotCommand) payload = []
bytes_for (Some (Event c)) payload = data_in payload
bytes_for (Some (Response c)) payload = data_in payload
bytes_for (Some (Unmatched c)) payload = []

-- what a verdict does to a ledger, with a reply
abbrev pub act_of : Verdict → (reply payload : List ℕ) → (live : List Request) → receiving.Act
act_of v reply payload live = record {
  word = word_of v.word;
  reply = reply;
  ending = ending_by v.change live;
  bytes = bytes_for v.word payload;
  seen = seen_of v.seen;
  live = changed v.change live;
}

-- what an effect does to a ledger, without a reply: the controller's last SEQ stays
abbrev pub effect_of : Effect → (payload : List ℕ) → Ledger → receiving.Act
effect_of e payload l = record {
  word = word_of e.word;
  reply = [];
  ending = ending_by e.change l.live;
  bytes = bytes_for e.word payload;
  seen = l.seen;
  live = changed e.change l.live;
}

-- the reply to a message: "DATA_SEQ: reply ACK with its SEQ."
abbrev pub reply_to : (type seq : ℕ) → List ℕ
reply_to type seq = if (eqb type data_seq) (ack_message seq) []

-- the verdict is what a message does
pub record Judges (v : Verdict) (e : Endpoint) (type seq : ℕ) (payload : List ℕ) (clock : ℕ) : Type 0 where
  pub acts : (store : List ℕ) → on_message (ledger_of e store) clock type seq payload
      ≡ act_of v (reply_to type seq) payload (live_of e.live store)
  pub names : Names v.change e.live.count
