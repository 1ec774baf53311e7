-- Document 01, "Refusal numbers": "Each hands back its number, taken count and any other number of the answer 0": the numbers of every
-- answer, those of a refused call too. A number that an answer does not tell is 0.
use Rattle.std.specs.Prelude.{ℕ, ◌+◌, List, [], ◌∷◌, replicate}
use Rattle.std.proofs.Math.Option.{Option, none, some}
use Rattle.message.specs.Items.{damaged_header, damaged_payload, forbidden, message}
use Rattle.line.specs.Receiving as line
use Rattle.line.specs.Receiving.{more, item}
use Rattle.ledger.specs.Answers as word
use Rattle.ledger.specs.Answers.{Ending, Command, Word, no_word, Receipt, Poll, sent, ended, quiet, Answer, refused, opened, submitted, received, polled}

-- "a message with TYPE, SEQ and LEN"
pub record Header : Type 0 where
  pub type : ℕ
  pub seq : ℕ
  pub len : ℕ

pub record Numbers : Type 0 where
  -- the refusal's number, 0 of an accepted call
  pub refusal : ℕ
  -- "Submit answers the request ID."
  pub id : ℕ
  -- "Receive answers the item of the six rules (a message with TYPE, SEQ and LEN) .., the bytes taken, the reply's length and, for an
  -- event, a response or *unmatched*, the command's fields and data length"
  pub header : Header
  pub taken : ℕ
  pub replied : ℕ
  pub command : Command
  -- "Poll answers the sent length or the quiet time."
  pub sent : ℕ
  pub time : ℕ
  -- "Every ending names its request ID"
  pub ended : ℕ

-- no message, and no command
abbrev pub no_header : Header
no_header = record { type = 0; seq = 0; len = 0 }

abbrev pub no_command : Command
no_command = record { fields = record { tc = 0; tid = 0; sid = 0; iid = 0; cid = 0 }; rqid = 0; length = 0 }

abbrev pub header_in : line.Answer → Header
header_in more = no_header
header_in (item damaged_header) = no_header
header_in (item forbidden) = no_header
header_in (item damaged_payload) = no_header
header_in (item (message type seq len)) = record { type = type; seq = seq; len = len }

abbrev pub command_in : Word → Command
command_in no_word = no_command
command_in word.stray = no_command
command_in word.repeat = no_command
command_in word.not_command = no_command
command_in (word.event c) = c
command_in (word.Word.response c) = c
command_in (word.unmatched c) = c

-- what a receive answers, and what a poll answers: of another answer nothing
abbrev pub nothing_received : Receipt
nothing_received = record { item = more; word = no_word; taken = 0; replied = 0; ending = none }

abbrev pub receipt_in : Answer → Receipt
receipt_in (refused number) = nothing_received
receipt_in opened = nothing_received
receipt_in (submitted id) = nothing_received
receipt_in (received r) = r
receipt_in (polled p) = nothing_received

abbrev pub poll_in : Answer → Poll
poll_in (refused number) = quiet none
poll_in opened = quiet none
poll_in (submitted id) = quiet none
poll_in (received r) = quiet none
poll_in (polled p) = p

-- a poll's numbers: the sent length, the quiet time, and the ID that it ended
abbrev pub sent_in : Poll → ℕ
sent_in (sent n) = n
sent_in (ended x) = 0
sent_in (quiet t) = 0

abbrev pub or_zero : Option ℕ → ℕ
or_zero none = 0
or_zero (some n) = n

abbrev pub time_in : Poll → ℕ
time_in (sent n) = 0
time_in (ended x) = 0
time_in (quiet t) = or_zero t

abbrev pub id_of : Option Ending → ℕ
id_of none = 0
id_of (some x) = x.id

abbrev pub ended_in : Poll → ℕ
ended_in (sent n) = 0
ended_in (ended x) = x.id
ended_in (quiet t) = 0

-- submit's number, and a refusal's
abbrev pub submitted_in : Answer → ℕ
submitted_in (refused number) = 0
submitted_in opened = 0
submitted_in (submitted id) = id
submitted_in (received r) = 0
submitted_in (polled p) = 0

abbrev pub refused_in : Answer → ℕ
refused_in (refused number) = number
refused_in opened = 0
refused_in (submitted id) = 0
refused_in (received r) = 0
refused_in (polled p) = 0

-- the numbers of an answer: a receive or a poll ends one request at most
abbrev pub numbers_of : Answer → Numbers
numbers_of a = record {
  refusal = refused_in a;
  id = submitted_in a;
  header = header_in (receipt_in a).item;
  taken = (receipt_in a).taken;
  replied = (receipt_in a).replied;
  command = command_in (receipt_in a).word;
  sent = sent_in (poll_in a);
  time = time_in (poll_in a);
  ended = id_of (receipt_in a).ending + ended_in (poll_in a);
}

-- all of them, in this order: the refusal's, the ID, TYPE, SEQ, LEN, taken, reply's length, TC, TID, SID, IID, RQID, CID, data length, sent
-- length, quiet time, the ID that ended
abbrev pub in_order : Numbers → List ℕ
in_order n =
    let h = n.header in
    let c = n.command in
    let f = c.fields in
    n.refusal ∷ n.id ∷ h.type ∷ h.seq ∷ h.len ∷ n.taken ∷ n.replied
    ∷ f.tc ∷ f.tid ∷ f.sid ∷ f.iid ∷ c.rqid ∷ f.cid ∷ c.length ∷ n.sent ∷ n.time ∷ n.ended ∷ []

-- "Each hands back its number, taken count and any other number of the answer 0"
abbrev pub refusal_alone : (number : ℕ) → List ℕ
refusal_alone n = n ∷ replicate 16 0
