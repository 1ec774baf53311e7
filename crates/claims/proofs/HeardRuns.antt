-- Two lists of calls, computed, so that what `specs/Hearing.antt` defines is seen to be what is meant: a message in two pieces, with a
-- refused receive and a poll between them; and a damaged message of which what is held decides one item more.
use Prim.Native.Nat.{ℕ}
use mathlib.Core.Bool.{true}
use mathlib.Core.List.{List, [], ◌∷◌, ◌++◌}
use mathlib.Core.Path.{◌≡◌, refl}
use lib.ListN.{take, drop}
use Rattle.checksum.specs.Checksum.{with_bit, with_bits, bits_of, checksum_from, checksum_of}
use Rattle.message.specs.Bytes.{syn, header_length, total, max_len, ack, allowed, le16, fields, header, body}
use Rattle.message.specs.Bytes as bytes
use Rattle.message.specs.Items.{damaged_header, damaged_payload, message, stands, dropped, rules, scan, payload_of}
use Rattle.message.specs.Writing.{placed}
use Rattle.line.specs.Receiving as line
use Rattle.line.specs.Receiving.{more, item, smallest, taken}
use Rattle.line.specs.Cuts.{handed_in, handed}
use Rattle.command.specs.Payload.{max_data, payload}
use Rattle.link.specs.SequenceIds.{seq_after}
use Rattle.link.specs.Frames.{due, may_go_again}
use Rattle.ledger.specs.Parts.{live_max, oldest}
use Rattle.ledger.specs.Submitting.{id_after, is_live, first_free}
use Rattle.ledger.specs.Receiving as receiving
use Rattle.ledger.specs.Receiving.{on_message}
use Rattle.ledger.specs.Polling as polling
use Rattle.ledger.specs.Polling.{earliest}
use Rattle.ledger.specs.Calls.{Call, submit, receive, poll}
use Rattle.ledger.specs.Refusals.{some_of, two_equal, flights, malformed, first_of}
use Rattle.ledger.specs.Runs.{step, Run, start, run}
use Rattle.ledger.specs.Examples as table
use Rattle.ledger.specs.Examples.{zeros, case_3, case_6}
use Rattle.claims.specs.Hearing.{bytes_taken, items_answered, last_receive, items_of}

-- all that a list is computed with
computed : Unit {0}
unfolding run step first_of malformed flights two_equal some_of polling.act earliest receiving.receive on_message first_free is_live id_after oldest due may_go_again seq_after
    payload line.receive taken smallest placed scan dropped stands rules payload_of allowed bytes.message body header fields le16 checksum_of checksum_from with_bits with_bit bits_of
    handed handed_in bytes_taken items_answered last_receive
computed = tt

abbrev polls : Call
polls = poll (zeros (total max_len)) 0

abbrev receives : (bytes : List ℕ) → Call
receives bytes = receive bytes (zeros (total 0)) (zeros max_data) 0

-- an ACK in two pieces with a byte behind it, which is handed in again; the refused receive's two bytes are not taken
abbrev in_pieces : List Call
in_pieces =
    submit table.fields [] true 0
    ∷ polls
    ∷ receives (take 4 case_3)
    ∷ receive (0 ∷ 0 ∷ []) [] [] 0
    ∷ polls
    ∷ receives (drop 4 case_3 ++ (1 ∷ []))
    ∷ receives (1 ∷ [])
    ∷ []

pub record InPieces (s : Run) : Type 0 where
  pub bytes : bytes_taken s.past ≡ case_3 ++ (1 ∷ [])
  pub items : items_answered s.past ≡ message ack 0 0 ∷ []
  pub last : last_receive s.past ≡ more
  pub held : s.ledger.held ≡ []

pub in_pieces_law : InPieces (run live_max (start 38) in_pieces)
unfolding computed
in_pieces_law = record { bytes = refl; items = refl; last = refl; held = refl }

-- the header of example 6 before a payload in which SYN stands twice, with a wrong checksum behind it: three items, of which the last
-- is decided by what is held and not answered yet
abbrev damaged : List ℕ
damaged = take header_length case_6 ++ (syn ++ (syn ++ zeros 6))

abbrev one_left : List Call
one_left = receives damaged ∷ receives [] ∷ polls ∷ []

pub record OneLeft (s : Run) : Type 0 where
  pub bytes : bytes_taken s.past ≡ damaged
  pub items : items_answered s.past ≡ damaged_payload ∷ damaged_header ∷ []
  pub last : last_receive s.past ≡ item damaged_header
  pub left : items_of (handed s.ledger.held []) ≡ damaged_header ∷ []

pub one_left_law : OneLeft (run live_max (start 38) one_left)
unfolding computed
one_left_law = record { bytes = refl; items = refl; last = refl; left = refl }
