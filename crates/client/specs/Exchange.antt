-- What the client is handed, and what it gets: its calls, one a row, each with its answer and the lent buffers afterwards. The frame of a
-- request, and what the receives answer, stand in `client_parts/specs/Answers.antt`.
use Rattle.std.specs.Prelude.{ℕ, suc, ◌+◌, ◌≤◌, ◌<◌, true, List, [], ◌∷◌, ◌++◌, map, ◌≡◌, length}
use Rattle.std.proofs.Math.Option.{some}
use Rattle.message.specs.Bytes.{total, max_len}
use Rattle.message.specs.Writing.{placed}
use Rattle.command.specs.Payload.{Fields, max_data, answers}
use Rattle.link.specs.Frames.{resend_time}
use Rattle.ledger.specs.Answers.{no_acknowledgement, Poll, sent, ended, quiet, Receipt, Answer, submitted, received, polled}
use Rattle.ledger.specs.Receiving.{ack_message}
use Rattle.ledger.specs.Calls.{Call, submit, receive, poll}
use Rattle.ledger.specs.Runs.{open_for, reserved_for, Outcome, Entry, past_of}
use Rattle.claims.specs.ClockRule.{ClockRule}
use Rattle.host_answers.specs.Answers.{open_answer_of, submit_answer_of, receive_answer_of, poll_answer_of}
use Rattle.host_answers.specs.Answers as returned
use Rattle.host_claims.specs.Claims.{Demand3}
use Rattle.client_parts.specs.Answers.{frame_for, to_ack, to_first, to_second}
use Rattle.client_parts.specs.declared.Readings.{Readings}
use Rattle.client.specs.declared.Report.{Report}

-- a case: R; the fields and the data of both requests; the response's fields, SEQ and data, and the two pieces in which it arrives; the
-- readings; and the lent buffers
pub record Case : Type 0 where
  pub reserved : ℕ
  pub fields : Fields
  pub bytes : List ℕ
  pub back : Fields
  pub seq : ℕ
  pub answer : List ℕ
  pub first : List ℕ
  pub second : List ℕ
  pub asked : ℕ
  pub heard : ℕ
  pub again : ℕ
  pub last : ℕ
  pub over : ℕ
  pub output : List ℕ
  pub reply : List ℕ
  pub buffer : List ℕ
  pub frames : List ℕ

-- the IDs of the two requests: "next request ID R + 1", "the one after it"
abbrev pub first_id : Case → ℕ
first_id k = suc (reserved_for k.reserved)

abbrev pub second_id : Case → ℕ
second_id k = suc (first_id k)

-- what the client is handed: data up to the limit; the ACK of its first frame; a response that answers its fields, of any data up to the
-- limit, cut anywhere before its last byte; readings that keep the rule for the clock, and at which a frame is due; and room enough
pub record Handed (k : Case) (acknowledgement : List ℕ) : Type 0 where
  pub short : length k.bytes ≤ max_data
  pub acknowledges : acknowledgement ≡ ack_message 0
  pub responds : k.first ++ k.second ≡ frame_for k.back (first_id k) k.answer k.seq
  pub answers : answers k.fields k.back ≡ true
  pub brief : length k.answer ≤ max_data
  pub cut : 0 < length k.second
  pub on : k.asked ≤ k.heard
  pub soon : k.heard ≤ k.asked + resend_time
  pub due : k.again ≡ k.heard + resend_time
  pub due_last : k.last ≡ k.again + resend_time
  pub due_over : k.over ≡ k.last + resend_time
  pub output_room : total max_len ≤ length k.output
  pub reply_room : total 0 ≤ length k.reply
  pub buffer_room : max_data ≤ length k.buffer
  pub frames_room : total max_len ≤ length k.frames

-- a row: a submit, a poll and a receive, with what each comes to
abbrev pub asks : Case → (clock id : ℕ) → Entry
asks k clock id = record { call = submit k.fields k.bytes true clock; answer = submitted id; buffers = [] }

abbrev pub polls : (output : List ℕ) (clock : ℕ) → Poll → (exit : List ℕ) → Entry
polls output clock p exit = record { call = poll output clock; answer = polled p; buffers = exit ∷ [] }

abbrev pub hears : Case → (bytes : List ℕ) → Receipt → (reply buffer : List ℕ) → Entry
hears k bytes r reply buffer =
    record { call = receive bytes k.reply k.buffer k.heard; answer = received r; buffers = reply ∷ buffer ∷ [] }

-- the whole exchange after open, call by call
abbrev pub rows : Case → List Entry
rows k =
    let frame = frame_for k.fields (first_id k) k.bytes 0 in
    let output = placed 0 frame k.output in
    let other = frame_for k.fields (second_id k) k.bytes 1 in
    let frames = placed 0 other k.frames in
    asks k k.asked (first_id k)
    ∷ polls k.output k.asked (sent (length frame)) output
    ∷ polls output k.asked (quiet (some resend_time)) output
    ∷ hears k (ack_message 0) (to_ack 0) k.reply k.buffer
    ∷ hears k k.first (to_first k.first) k.reply k.buffer
    ∷ hears k k.second (to_second k.back (first_id k) k.seq k.answer k.second) (placed 0 (ack_message k.seq) k.reply)
    (placed 0 k.answer k.buffer)
    ∷ asks k k.heard (second_id k)
    ∷ polls k.frames k.heard (sent (length other)) frames
    ∷ polls frames k.heard (quiet (some resend_time)) frames
    ∷ polls frames k.again (sent (length other)) frames
    ∷ polls frames k.again (quiet (some resend_time)) frames
    ∷ polls frames k.last (sent (length other)) frames
    ∷ polls frames k.last (quiet (some resend_time)) frames
    ∷ polls frames k.over (ended (record { id = second_id k; cause = no_acknowledgement })) frames
    ∷ []

-- the calls of rows, and their outcomes
abbrev pub calls_in : List Entry → List Call
calls_in es = map (λ (e : Entry). e.call) es

abbrev pub outcomes_in : List Entry → List Outcome
outcomes_in es = map (λ (e : Entry). record { answer = e.answer; buffers = e.buffers }) es

-- what the client hands back, as answers in the order of its calls
abbrev pub answers_of : Report → List Answer
answers_of r =
    submit_answer_of r.first.id
    ∷ poll_answer_of r.first.sent
    ∷ poll_answer_of r.first.rests
    ∷ receive_answer_of r.heard.acknowledged
    ∷ receive_answer_of r.heard.waits
    ∷ receive_answer_of r.heard.answered
    ∷ submit_answer_of r.second.id
    ∷ poll_answer_of r.second.sent
    ∷ poll_answer_of r.second.rests
    ∷ poll_answer_of r.over.second
    ∷ poll_answer_of r.over.rests
    ∷ poll_answer_of r.over.third
    ∷ poll_answer_of r.over.calm
    ∷ poll_answer_of r.over.ended
    ∷ []

-- what it gets: open's answer, those of the rows, every lent buffer afterwards; its calls keep the rule for the clock, and demand 3 holds
-- of them
pub record Exchanged (k : Case) (r : Report) (store output reply buffer frames : List ℕ) : Type 0 where
  pub begun : returned.Opened
  pub opened : open_answer_of r.opened ≡ (open_for k.reserved).answer
  pub answered : answers_of r ≡ map (λ (e : Entry). e.answer) (rows k)
  pub outputs : output ≡ placed 0 (frame_for k.fields (first_id k) k.bytes 0) k.output
  pub replies : reply ≡ placed 0 (ack_message k.seq) k.reply
  pub buffers : buffer ≡ placed 0 k.answer k.buffer
  pub framed : frames ≡ placed 0 (frame_for k.fields (second_id k) k.bytes 1) k.frames
  pub kept : ClockRule (past_of (calls_in (rows k)) (outcomes_in (rows k)))
  pub meets : Demand3 k.reserved begun (calls_in (rows k)) (outcomes_in (rows k)) r.over.endpoint store

-- the contract: for every response that may arrive
abbrev pub Exchanges : Report → (reserved : ℕ) → Fields → (bytes ack first second : List ℕ) → Readings
    → (output reply buffer frames : List ℕ)
    → (store_exit output_exit reply_exit buffer_exit frames_exit : List ℕ) → Type 0
Exchanges r reserved f bytes acknowledgement first second at output reply buffer frames store_exit output_exit reply_exit buffer_exit frames_exit =
    (back : Fields) (seq : ℕ) (answer : List ℕ)
    → let k : Case = record {
      reserved = reserved;
      fields = f;
      bytes = bytes;
      back = back;
      seq = seq;
      answer = answer;
      first = first;
      second = second;
      asked = at.asked;
      heard = at.heard;
      again = at.again;
      last = at.last;
      over = at.over;
      output = output;
      reply = reply;
      buffer = buffer;
      frames = frames;
    } in Handed k acknowledgement → Exchanged k r store_exit output_exit reply_exit buffer_exit frames_exit
