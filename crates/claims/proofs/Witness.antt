-- A list of calls that keeps the clock rule up to quiet polls 12,000 ms after a submit, and one that breaks it: the bound speaks of
-- something. And a list with as many polls in a row that do something as may be live.
use Prim.Native.Nat.{ℕ}
use mathlib.Core.Bool.{true, false, true≢false}
use mathlib.Core.List.{List, [], ◌∷◌}
use mathlib.Core.Option.{none}
use mathlib.Core.Path.{◌≡◌, refl, sym, ◌∙◌}
use lib.ListN.{length}
use Rattle.checksum.specs.Checksum.{with_bit, with_bits, bits_of, checksum_from, checksum_of}
use Rattle.message.specs.Bytes.{total, max_len, le16, fields, header, body, message, allowed}
use Rattle.message.specs.Items.{stands, dropped, rules, scan, payload_of}
use Rattle.message.specs.Writing.{placed}
use Rattle.line.specs.Receiving as line
use Rattle.command.specs.Payload.{max_data, payload}
use Rattle.link.specs.SequenceIds.{seq_after}
use Rattle.link.specs.Frames.{due, may_go_again}
use Rattle.ledger.specs.Parts.{live_max, oldest}
use Rattle.ledger.specs.Answers.{quiet, polled}
use Rattle.ledger.specs.Submitting.{id_after, is_live, first_free}
use Rattle.ledger.specs.Receiving as receiving
use Rattle.ledger.specs.Receiving.{ack_message, on_message, on_data, matches}
use Rattle.ledger.specs.Polling as polling
use Rattle.ledger.specs.Polling.{earliest}
use Rattle.ledger.specs.Calls.{Call, submit, receive, poll, reading_of}
use Rattle.ledger.specs.Refusals.{some_of, two_equal, flights, malformed, first_of}
use Rattle.ledger.specs.Runs.{step, Entry, start, run}
use Rattle.ledger.specs.Examples as table
use Rattle.ledger.specs.Examples.{zeros}
use Rattle.claims.specs.Trace.{last_asked, endings, frames, without, live_after, requests}
use Rattle.claims.specs.ClockRule.{accepted_in, ClockRule}
use Rattle.claims.specs.Resting.{busy_in_a_row, restless, PollAt, PolledAt, polls_to_rest}
use Rattle.claims.proofs.ClockTest.{may_follow, keeps_clock_rule, rule_test, test_rule}

-- all that a list is computed with
computed : Unit {0}
unfolding run step first_of malformed flights two_equal some_of polling.act earliest first_free is_live id_after oldest due may_go_again seq_after payload placed
    message body header fields le16 checksum_of checksum_from with_bits with_bit bits_of last_asked endings frames without live_after requests may_follow
    keeps_clock_rule accepted_in busy_in_a_row
computed = tt

abbrev polls : ℕ → Call
polls clock = poll (zeros (total max_len)) clock

-- a request that nobody acknowledges, then silence until 12,000 ms after it, then polls
abbrev unheard : List Call
unheard =
    submit table.fields [] true 0
    ∷ polls 0
    ∷ polls 0
    ∷ polls 1000
    ∷ polls 1000
    ∷ polls 2000
    ∷ polls 2000
    ∷ polls 3000
    ∷ polls 3000
    ∷ polls 12000
    ∷ polls 12000
    ∷ polls 12000
    ∷ polls 12000
    ∷ []

pub record Unheard (past : List Entry) : Type 0 where
  pub kept : ClockRule past
  pub asked : length (requests past) ≡ 1
  pub ended : endings 0 past ≡ 1
  pub sent : length (frames 0 past) ≡ 3
  pub left : live_after past ≡ []
  pub polled : PolledAt 12000 (polls_to_rest live_max) past

silent : {e : Entry} → e.answer ≡ polled (quiet none) → reading_of e.call ≡ 12000 → PollAt 12000 e
silent answered read = record { answer = quiet none; answered = answered; read = read }

pub unheard_ends : Unheard (run live_max (start 38) unheard).past
unfolding computed
unheard_ends = record {
  kept = test_rule (run live_max (start 38) unheard).past refl;
  asked = refl;
  ended = refl;
  sent = refl;
  left = refl;
  polled = (silent refl refl, (silent refl refl, (silent refl refl, (silent refl refl, tt))));
}

-- a reading that is later than the quiet time allows breaks the rule
too_late_tested : keeps_clock_rule (run live_max (start 38) (submit table.fields [] true 0 ∷ polls 0 ∷ polls 0 ∷ polls 1001 ∷ [])).past
    ≡ false
unfolding computed
too_late_tested = refl

pub too_late : ClockRule (run live_max (start 38) (submit table.fields [] true 0 ∷ polls 0 ∷ polls 0 ∷ polls 1001 ∷ [])).past → ⊥
too_late kept = true≢false (sym (rule_test _ kept) ∙ too_late_tested)

-- three requests, each acknowledged at once, whose responses do not come: three polls at 3,000 do something
abbrev hears : (seq : ℕ) → Call
hears seq = receive (ack_message seq) (zeros (total 0)) (zeros max_data) 0

abbrev unanswered : List Call
unanswered =
    submit table.fields [] true 0
    ∷ submit table.fields [] true 0
    ∷ submit table.fields [] true 0
    ∷ polls 0
    ∷ hears 0
    ∷ polls 0
    ∷ hears 1
    ∷ polls 0
    ∷ hears 2
    ∷ polls 0
    ∷ polls 3000
    ∷ polls 3000
    ∷ polls 3000
    ∷ []

-- what a list with receives is computed with
heard : Unit {0}
unfolding computed receiving.receive on_message on_data matches line.receive line.taken line.smallest scan dropped stands rules payload_of allowed
heard = tt

pub record Unanswered (past : List Entry) : Type 0 where
  pub kept : ClockRule past
  pub busy : restless 3000 past ≡ live_max

pub busy_thrice : Unanswered (run live_max (start 38) unanswered).past
unfolding heard
busy_thrice = record { kept = test_rule (run live_max (start 38) unanswered).past refl; busy = refl }
