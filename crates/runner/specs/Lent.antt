-- The lines of receive and poll, from the answer and the lent buffers as the call left them (docs/SESSION-SCRIPT.md).
use Rattle.std.specs.Prelude.{ℕ, Bool, not, ◌||◌, List, ◌++◌, ◌==◌, take, drop}
use Rattle.std.specs.List.{list_any}
use Rattle.host_answers.specs.Answers.{ReceiveAnswer, PollAnswer}
use Rattle.ledger.specs.Promises.{number_of}
use Rattle.lent_lengths.specs.Lengths.{reply_length, data_length, frame_length}
use Rattle.transcript.specs.Lines.{receive_text, poll_text, end_text}

-- what the lent buffers are filled with
abbrev pub fill : ℕ
fill = 0xEE

-- whether any of these bytes is another
abbrev pub touched : List ℕ → Bool
touched s = list_any (λ b. not (b == fill)) s

-- the line of a receive: what is said to be there is shown, and nothing behind it may be touched
unfoldable pub receive_line : ReceiveAnswer → List ℕ → List ℕ → List ℕ
receive_line a reply buffer =
    receive_text number_of a (take (reply_length a) reply) (take (data_length a) buffer)
    ++ end_text (touched (drop (reply_length a) reply) || touched (drop (data_length a) buffer))

-- the line of a poll
unfoldable pub poll_line : PollAnswer → List ℕ → List ℕ
poll_line a output = poll_text number_of a (take (frame_length a) output) ++ end_text (touched (drop (frame_length a) output))
