-- What the steps inside the calls come to, in the ledger's terms. What the calls promise does not cite these.
use Rattle.std.specs.Prelude.{ℕ, ◌≤◌, false, List, [], ◌≡◌, take, drop}
use Rattle.message.specs.Items as items
use Rattle.message.specs.Items.{damaged_header, forbidden, damaged_payload}
use Rattle.line.specs.Receiving.{held_max}
use Rattle.line.specs.Promises.{Decides}
use Rattle.line.specs.declared.Decision.{Decision}
use Rattle.ledger.specs.Answers.{Done}
use Rattle.ledger.specs.Receiving.{nak_message}
use Rattle.endpoint.specs.Endpoint.{ledger_of}
use Rattle.endpoint.specs.Malformed.{malformed}
use Rattle.endpoint.specs.Places.{Fits}
use Rattle.endpoint.specs.declared.Endpoint.{Endpoint}
use Rattle.decisions_verdict.specs.Verdicts.{reply_to}
use Rattle.host_answers.specs.Promises.{Result}

-- what an accepted call works with: an endpoint that is not malformed, and a reading not below its clock
pub record Sound (e : Endpoint) (clock : ℕ) : Type 0 where
  pub sound : malformed e ≡ false
  pub forward : e.clock ≤ clock

-- what an accepted call comes to: the ledger's answer, buffers and next ledger, with rows that fit and no more held than may be
pub record Does (d : Done) (o : Result) : Type 0 where
  pub answers : o.answer ≡ d.answer
  pub leaves : o.buffers ≡ d.buffers
  pub next : ledger_of o.endpoint o.store ≡ d.next
  pub fits : Fits o.endpoint.live
  pub holds : o.endpoint.held ≤ held_max

-- the reply to an item
abbrev pub reply_for : items.Item → List ℕ
reply_for damaged_header = nak_message
reply_for forbidden = []
reply_for damaged_payload = nak_message
reply_for (items.message type seq len) = reply_to type seq

-- the line's decision on the front of a store, which leaves the rooms
pub record DecidesIn (d : Decision) (held : ℕ) (new entry exit : List ℕ) : Type 0 where
  pub decides : Decides d (take held entry) new (take held_max exit)
  pub rooms : drop held_max exit ≡ drop held_max entry
