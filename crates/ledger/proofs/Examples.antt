-- The fourteen bench examples of document 01, and the runs that show faults, items and refusals, computed by the definitions, each
-- value once (`Once`).
use mathlib.Core.Path.{refl}
use Rattle.checksum.specs.Checksum.{with_bit, with_bits, bits_of, checksum_from, checksum_of}
use Rattle.message.specs.Bytes.{le16, fields, header, body, message, allowed}
use Rattle.message.specs.Items.{stands, dropped, rules, scan, payload_of}
use Rattle.message.specs.Writing.{placed}
use Rattle.line.specs.Receiving.{smallest, taken, receive}
use Rattle.command.specs.Payload.{payload, is_command, answers}
use Rattle.link.specs.SequenceIds.{seq_after}
use Rattle.link.specs.Frames.{due, may_go_again}
use Rattle.link.specs.Repeats.{is_repeat, seen_after}
use Rattle.ledger.specs.Parts.{oldest}
use Rattle.ledger.specs.Submitting.{id_after, is_live, first_free}
use Rattle.ledger.specs.Receiving as ledger
use Rattle.ledger.specs.Receiving.{matches, on_data, on_message}
use Rattle.ledger.specs.Polling.{earliest}
use Rattle.ledger.specs.Polling as polling
use Rattle.ledger.specs.Refusals.{some_of, two_equal, flights, malformed, first_of}
use Rattle.ledger.specs.Runs.{step}
use Rattle.ledger.specs.Examples.{AreTrue, table}
use Rattle.ledger.specs.FaultRuns.{fault_runs}
use Rattle.ledger.specs.ItemRuns.{item_runs}
use Rattle.ledger.specs.RefusalRuns.{refusal_runs}
use Rattle.ledger.specs.KeptRuns.{kept_runs}
use Rattle.ledger.specs.RequestRuns.{request_runs}
use Rattle.ledger.proofs.Once.{AgreesOnce, IsTrueOnce, AreTrueOnce, are_true}

-- all that a table is computed with
computed : Unit {0}
unfolding AreTrueOnce IsTrueOnce AgreesOnce step first_of malformed flights two_equal some_of polling.act earliest ledger.receive on_message on_data matches first_free is_live id_after oldest
    is_repeat seen_after due may_go_again seq_after payload is_command answers receive taken smallest placed scan dropped stands rules payload_of
    allowed message body header fields le16 checksum_of checksum_from with_bits with_bit bits_of
computed = tt

infixr 4 ◌also◌
◌also◌ : {A B : Type 0} → A → B → A × B
a also b = (a, b)

-- each is computed: an equation for a checksum or a message, two for a call, one more for a receive, which takes all its bytes, and one
-- for the bytes held in the end
examples_once : AreTrueOnce table
unfolding computed
examples_once =
    refl
    also refl
    also refl
    also refl
    also refl
    also (refl, refl, (refl, refl, refl))
    also (refl, (refl, refl, refl))
    also (refl, (refl, refl, refl))
    also (refl, (refl, refl, refl))
    also (refl, refl, (refl, refl, (refl, refl, (refl, refl, (refl, refl, (refl, refl, (refl, refl, refl)))))))
    also (refl, refl, (refl, refl, (refl, refl, (refl, refl, (refl, (refl, refl, (refl, refl, refl)))))))
    also (refl, refl, (refl, refl, (refl, (refl, refl, (refl, refl, refl)))))
    also (refl, refl, (refl, refl, (refl, refl, (refl, refl, (refl, refl, (refl, (refl, refl, (refl, refl, refl))))))))
    also (refl, refl, (refl, refl, (refl, refl, (refl, refl, refl))))
    also tt

pub examples : AreTrue table
examples = are_true table examples_once

-- and the runs that show the faults
fault_runs_once : AreTrueOnce fault_runs
unfolding computed
fault_runs_once =
    (refl, (refl, refl, refl))
    also (refl, (refl, refl, (refl, (refl, refl, refl))))
    also (refl, (refl, refl, (refl, (refl, refl, refl))))
    also (refl, refl, (refl, refl, (refl, refl, refl)))
    also tt

pub fault_runs_law : AreTrue fault_runs
fault_runs_law = are_true fault_runs fault_runs_once

-- the runs of items
item_runs_once : AreTrueOnce item_runs
unfolding computed
item_runs_once =
    (refl, (refl, refl, refl))
    also (refl, (refl, refl, refl))
    also (refl, (refl, refl, refl))
    also (refl, (refl, refl, (refl, refl, refl)))
    also (refl, (refl, refl, refl))
    also (refl, (refl, refl, refl))
    also (refl, (refl, refl, refl))
    also (refl, (refl, refl, refl))
    also (refl, (refl, refl, refl))
    also (refl, (refl, refl, refl))
    also (refl, (refl, refl, refl))
    also tt

pub item_runs_law : AreTrue item_runs
item_runs_law = are_true item_runs item_runs_once

-- and the refusals
refusal_runs_once : AreTrueOnce refusal_runs
unfolding computed
refusal_runs_once =
    (refl, refl, refl)
    also (refl, refl, refl)
    also (refl, refl, refl)
    also (refl, refl, refl)
    also (refl, refl, refl)
    also (refl, refl, refl)
    also (refl, refl, refl)
    also (refl, refl, refl)
    also (refl, refl, refl)
    also (refl, refl, refl)
    also (refl, refl, refl)
    also (refl, refl, refl)
    also (refl, refl, refl)
    also (refl, refl, refl)
    also (refl, refl, refl)
    also (refl, refl, refl)
    also (refl, refl, (refl, (refl, refl, (refl, refl, refl))))
    also (refl, refl)
    also (refl, refl)
    also (refl, refl, (refl, refl, refl))
    also (refl, (refl, refl, (refl, (refl, refl, (refl, refl, refl)))))
    also tt

pub refusal_runs_law : AreTrue refusal_runs
refusal_runs_law = are_true refusal_runs refusal_runs_once

-- what calls leave
kept_runs_once : AreTrueOnce kept_runs
unfolding computed
kept_runs_once =
    (refl, (refl, refl, (refl, refl, (refl, refl, (refl, refl, (refl, (refl, refl, (refl, (refl, refl, (refl, (refl, refl, (refl, (refl, refl, (refl, (refl, refl, (refl, refl, (refl, (refl, refl, refl))))))))))))))))))
    also (refl, (refl, refl, (refl, (refl, refl, (refl, (refl, refl, (refl, (refl, refl, refl))))))))
    also (refl, (refl, refl, (refl, (refl, refl, refl))))
    also (refl, refl, (refl, refl, (refl, refl, (refl, (refl, refl, (refl, refl, (refl, refl, (refl, refl, (refl, (refl, refl, (refl, (refl, refl, refl))))))))))))
    also (refl, refl, (refl, refl, (refl, refl, (refl, refl, (refl, (refl, refl, (refl, refl, (refl, (refl, refl, refl)))))))))
    also (refl, refl, (refl, refl, (refl, (refl, refl, (refl, refl, (refl, refl, (refl, (refl, refl, refl))))))))
    also tt

pub kept_runs_law : AreTrue kept_runs
kept_runs_law = are_true kept_runs kept_runs_once

-- and the paths of requests
request_runs_once : AreTrueOnce request_runs
unfolding computed
request_runs_once =
    (refl, refl, (refl, refl, (refl, (refl, refl, (refl, refl, refl)))))
    also (refl, refl, (refl, refl, (refl, refl, refl)))
    also (refl, refl, (refl, refl, (refl, (refl, refl, (refl, refl, (refl, refl, (refl, refl, refl)))))))
    also (refl, refl, (refl, refl, refl))
    also (refl, refl, refl)
    also (refl, refl, refl)
    also (refl, refl, refl)
    also (refl, (refl, refl, (refl, (refl, refl, refl))))
    also (refl, (refl, refl, refl))
    also (refl, (refl, refl, refl))
    also tt

pub request_runs_law : AreTrue request_runs
request_runs_law = are_true request_runs request_runs_once
