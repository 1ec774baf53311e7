-- What an accepted receive comes to, by what the line decided: *more*, an item that is no message, or a message.
use Prim.Native.Nat.{ℕ, ◌≤◌}
use mathlib.Core.List.{List, []}
use mathlib.Core.Path.{◌≡◌, refl, sym, ap, ◌∙◌}
use native.Mathlib.Omega.{arith}
use lib.ListN.{length, take, drop, length-take}
use Rattle.std.specs.Prelude.{Option, None, Some}
use Rattle.message.specs.Bytes.{max_len}
use Rattle.message.specs.Promises.{item_of}
use Rattle.message.specs.Writing.{placed}
use Rattle.message.specs.declared.Seq.{Seq}
use Rattle.message.specs.declared.Item.{Item}
use Rattle.message.specs.declared.Item.TheVariants.{DamagedHeader, Forbidden, DamagedPayload, Message}
use Rattle.line.specs.Receiving as line
use Rattle.line.specs.Receiving.{held_max}
use Rattle.line.specs.Promises.{answer_of, part_of}
use Rattle.line.specs.declared.Place.{Place}
use Rattle.line.specs.declared.Place.TheVariants.{Held, New}
use Rattle.line.specs.declared.Decision.{Decision}
use Rattle.line.proofs.Laws.{message_short}
use Rattle.ledger.specs.Answers.{Done}
use Rattle.ledger.specs.Receiving as ledger
use Rattle.ledger.specs.Receiving.{act, received_as}
use Rattle.endpoint.specs.Endpoint.{ledger_of, live_of}
use Rattle.endpoint.specs.declared.Endpoint.{Endpoint}
use Rattle.frames.specs.Promises.{Put}
use Rattle.decisions_verdict.specs.Verdicts.{bytes_for, act_of, reply_to, Judges}
use Rattle.decisions_verdict.specs.declared.Verdict.{Verdict}
use Rattle.host_answers.specs.Promises.{receive_result}
use Rattle.host_answers.specs.Code.{Does, reply_for, DecidesIn}
use Rattle.host_answers.specs.Answers.{Received}
use Rattle.host_answers.proofs.Held.{placed_none}

-- the payload of what the line answers is no longer than a message may be
short_part : (a : Option Item) (p : Place) (array new held bytes : List ℕ) → answer_of a ≡ (line.receive held bytes).answer
    → length (part_of a p array new) ≤ max_len
short_part None p array new held bytes told = omega arith
short_part (Some DamagedHeader) p array new held bytes told = omega arith
short_part (Some Forbidden) p array new held bytes told = omega arith
short_part (Some DamagedPayload) p array new held bytes told = omega arith
short_part (Some (Message t q len)) (Held at) array new held bytes told =
    let short = message_short held bytes (sym told) in omega (arith, length-take len (drop at array))
short_part (Some (Message t q len)) (New at) array new held bytes told =
    let short = message_short held bytes (sym told) in omega (arith, length-take len (drop at new))

pub short_payload : (d : Decision) (held : ℕ) (new entry exit : List ℕ) → DecidesIn d held new entry exit
    → length (part_of d.answer d.payload (take held_max exit) new) ≤ max_len
short_payload d held new entry exit decided =
    short_part d.answer d.payload (take held_max exit) new (take held entry) new
    (ap (λ (x : line.Received). x.answer) decided.decides.gives)

-- a verdict that is a word and no more
pub record NoMore (v : Verdict) (e : Endpoint) : Type 0 where
  pub word : v.word ≡ None
  pub change : v.change ≡ None
  pub seen : v.seen ≡ e.seen

-- an item that is no message
abbrev pub NoMessage : Item → Type 0
NoMessage i = (t : ℕ) (q : Seq) (len : ℕ) → i ≡ Message t q len → ⊥

-- what it does
plain : (e : Endpoint) (clock : ℕ) (v : Verdict) (i : Item) (payload store : List ℕ) → NoMore v e
    → NoMessage i
    → act (ledger_of e store) clock (line.item (item_of i)) payload ≡ act_of v (reply_for (item_of i)) payload (live_of e.live store)
plain e clock v DamagedHeader payload store h k = rw (h.word, h.change, h.seen)
plain e clock v Forbidden payload store h k = rw (h.word, h.change, h.seen)
plain e clock v DamagedPayload payload store h k = rw (h.word, h.change, h.seen)
plain e clock v (Message t q len) payload store h k =
    absurd (k t q len refl)

-- what `act` promises of its verdict
abbrev pub Acts : Endpoint → Decision → Verdict → (replied clock : ℕ) → Received → (middle exit : List ℕ) → Type 0
Acts e d v replied clock r middle exit =
    (entry new words payload reply buffer : List ℕ) → DecidesIn d e.held new entry middle → length words ≡ replied
    → Does (received_as (ledger_of e entry) (line.receive (take e.held entry) new)
    (act_of v words payload (live_of e.live entry)) reply buffer clock)
    (receive_result r exit (placed 0 words reply) (placed 0 (bytes_for v.word payload) buffer))

-- the buffers of an outcome by other names
renamed : (done : Done) (r : Received) (exit left given : List ℕ) {x y : List ℕ} → x ≡ left → y ≡ given
    → Does done (receive_result r exit x y) → Does done (receive_result r exit left given)
renamed done r exit left given p q does = rw (← p, ← q) does

-- the payload that was decided
abbrev pub decided_part : Decision → (middle new : List ℕ) → List ℕ
decided_part d middle new = part_of d.answer d.payload (take held_max middle) new

module _ (e : Endpoint) (d : Decision) (v : Verdict) (clock replied : ℕ) (r : Received) (new entry middle exit reply buffer : List ℕ)
    (decided : DecidesIn d e.held new entry middle) (acts : Acts e d v replied clock r middle exit) where
  -- the act is the ledger's
  same_act : (words left given : List ℕ) → act (ledger_of e entry) clock (answer_of d.answer) (decided_part d middle new)
      ≡ act_of v words (decided_part d middle new) (live_of e.live entry)
      → Put replied words reply left → placed 0 (bytes_for v.word (decided_part d middle new)) buffer ≡ given
      → Does (ledger.receive (ledger_of e entry) new reply buffer clock) (receive_result r exit left given)
  unfolding ledger.receive
  same_act words left given same put gives =
      let received = line.receive (take e.held entry) new in
      let its : act (ledger_of e entry) clock received.answer received.payload
      ≡ act_of v words (decided_part d middle new) (live_of e.live entry) =
      ap (λ (x : line.Received). act (ledger_of e entry) clock x.answer x.payload) (sym decided.decides.gives) ∙ same in
      rw its
      (renamed _ r exit left given (sym put.leaves) gives
      (acts entry new words (decided_part d middle new) reply buffer decided (sym put.counts)))

  -- the answer by another name
  answered : (a : Option Item) → d.answer ≡ a → act (ledger_of e entry) clock (answer_of d.answer) (decided_part d middle new)
      ≡ act (ledger_of e entry) clock (answer_of a) (decided_part d middle new)
  answered a told = ap (λ (x : Option Item). act (ledger_of e entry) clock (answer_of x) (decided_part d middle new)) told

  -- nothing is put into the data buffer
  untouched : NoMore v e → placed 0 (bytes_for v.word (decided_part d middle new)) buffer ≡ buffer
  untouched h = rw h.word (placed_none buffer)

  -- *more*
  pub on_more : replied ≡ 0 → d.answer ≡ None → NoMore v e
      → Does (ledger.receive (ledger_of e entry) new reply buffer clock) (receive_result r exit reply buffer)
  on_more no-reply more h =
      same_act [] reply buffer (rw (more, h.word, h.change, h.seen))
      (record { counts = no-reply; leaves = sym (placed_none reply) }) (untouched h)

  -- an item that is no message
  pub on_plain : (i : Item) (left : List ℕ) → d.answer ≡ Some i → NoMessage i
      → NoMore v e → Put replied (reply_for (item_of i)) reply left
      → Does (ledger.receive (ledger_of e entry) new reply buffer clock) (receive_result r exit left buffer)
  on_plain i left one k h put =
      same_act (reply_for (item_of i)) left buffer (answered (Some i) one ∙ plain e clock v i (decided_part d middle new) entry h k) put
      (untouched h)

  -- a message
  pub on_message_law : (t len : ℕ) (q : Seq) (left given : List ℕ) → d.answer ≡ Some (Message t q len)
      → Put replied (reply_to t q.0) reply left → Judges v e t q.0 (decided_part d middle new) clock
      → given ≡ placed 0 (bytes_for v.word (decided_part d middle new)) buffer
      → Does (ledger.receive (ledger_of e entry) new reply buffer clock) (receive_result r exit left given)
  on_message_law t len q left given one put judges gives =
      same_act (reply_to t q.0) left given (answered (Some (Message t q len)) one ∙ judges.acts entry) put (sym gives)
