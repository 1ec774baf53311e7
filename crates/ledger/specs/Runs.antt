-- Document 01, "What demand 3 compares": what each call comes to, and the run of a list of calls.
use Rattle.std.specs.Prelude.{ℕ, List, [], ◌∷◌}
use Rattle.std.proofs.Math.Option.{Option, none, some}
use Rattle.ledger.specs.Parts.{Ledger, fresh}
use Rattle.ledger.specs.Answers.{Answer, refused, opened, Done}
use Rattle.ledger.specs.Submitting as submitting
use Rattle.ledger.specs.Receiving as receiving
use Rattle.ledger.specs.Polling as polling
use Rattle.ledger.specs.Calls.{Call, submit, receive, poll, lent_by}
use Rattle.ledger.specs.Refusals.{first_of, open_lines, refusal}

-- open: "It starts fresh for what open was given, or for R = 0 where open refused."
abbrev pub opened_by : (given : ℕ) → Option ℕ → Done
opened_by given none = record { answer = opened; buffers = []; next = fresh given }
opened_by given (some number) = record { answer = refused number; buffers = []; next = fresh 0 }

-- what open answers and hands back
abbrev pub open_for : (given : ℕ) → Done
open_for given = opened_by given (first_of (open_lines given))

-- what an accepted call comes to
abbrev pub accepts : Ledger → Call → Done
accepts l (submit fields bytes wanted clock) = submitting.submit l fields bytes wanted clock
accepts l (receive bytes reply buffer clock) = receiving.receive l bytes reply buffer clock
accepts l (poll output clock) = polling.poll l output clock

-- "A call that the table below refuses .. gets its number there, and the ledger stays"; buffers unchanged
abbrev pub answers_to : Ledger → Call → Option ℕ → Done
answers_to l c none = accepts l c
answers_to l c (some number) = record { answer = refused number; buffers = lent_by c; next = l }

-- a call, where at most `limit` requests may be live
unfoldable pub step : (limit : ℕ) → Ledger → Call → Done
step limit l c = answers_to l c (refusal limit l c)

-- what a caller sees of a call, its outcome: the answer, and "the whole contents of every lent buffer afterwards"
pub record Outcome : Type 0 where
  pub answer : Answer
  pub buffers : List (List ℕ)

abbrev pub outcome_of : Done → Outcome
outcome_of d = record { answer = d.answer; buffers = d.buffers }

-- what the ledger answers to a list of calls, in their order, and the ledger afterwards
unfoldable pub outcomes_of : (limit : ℕ) → Ledger → List Call → List Outcome
outcomes_of limit l [] = []
outcomes_of limit l (c ∷ cs) = outcome_of (step limit l c) ∷ outcomes_of limit (step limit l c).next cs

unfoldable pub ledger_after : (limit : ℕ) → Ledger → List Call → Ledger
ledger_after limit l [] = l
ledger_after limit l (c ∷ cs) = ledger_after limit (step limit l c).next cs

-- a call with its outcome
pub record Entry : Type 0 where
  pub call : Call
  pub answer : Answer
  pub buffers : List (List ℕ)

abbrev pub entry : Call → Outcome → Entry
entry c o = record { call = c; answer = o.answer; buffers = o.buffers }

-- calls and their outcomes as what has happened, newest first: behind what had happened before them, and from the beginning
unfoldable pub past_from : List Entry → List Call → List Outcome → List Entry
past_from past [] os = past
past_from past (c ∷ cs) [] = past
past_from past (c ∷ cs) (o ∷ os) = past_from (entry c o ∷ past) cs os

abbrev pub past_of : List Call → List Outcome → List Entry
past_of cs os = past_from [] cs os

-- the R that a list runs with: "what open was given, or .. 0 where open refused"
abbrev pub reserved_for : (given : ℕ) → ℕ
reserved_for given = (open_for given).next.reserved

-- a list of calls as far as it was run: what has happened, newest first, and the ledger. It is `past_of` of the calls and of what the
-- ledger answers to them, beside `ledger_after` (law `run_agrees`, `claims/proofs/Runs.antt`): the form in which theorems go along a list
pub record Run : Type 0 where
  pub past : List Entry
  pub ledger : Ledger

-- the list starts from what open hands back, "also when it refuses"
abbrev pub start : (given : ℕ) → Run
start given = record { past = []; ledger = (open_for given).next }

-- one call more
abbrev pub then : (limit : ℕ) → Run → Call → Run
then limit s c =
    let d = step limit s.ledger c in
    record { past = record { call = c; answer = d.answer; buffers = d.buffers } ∷ s.past; ledger = d.next }

-- the calls in their order
unfoldable pub run : (limit : ℕ) → Run → List Call → Run
run limit s [] = s
run limit s (c ∷ cs) = run limit (then limit s c) cs
