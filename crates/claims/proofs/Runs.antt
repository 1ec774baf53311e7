-- A run of a list of calls is what the ledger answers to them, newest first, beside the ledger afterwards; and lists put together.
use Prim.Native.Nat.{ℕ}
use mathlib.Core.List.{List, [], ◌∷◌, ◌++◌}
use mathlib.Core.Path.{◌≡◌, refl, ap}
use Rattle.ledger.specs.Parts.{Ledger}
use Rattle.ledger.specs.Calls.{Call}
use Rattle.ledger.specs.Runs.{step, outcome_of, outcomes_of, ledger_after, past_from, past_of, Run, start, then, run, open_for}

run_from : (limit : ℕ) (s : Run) (cs : List Call)
    → run limit s cs
    ≡ record { past = past_from s.past cs (outcomes_of limit s.ledger cs); ledger = ledger_after limit s.ledger cs }
unfolding run outcomes_of ledger_after past_from
run_from limit s [] = refl
run_from limit s (c ∷ cs) = run_from limit (then limit s c) cs

pub run_agrees : (limit given : ℕ) (cs : List Call)
    → run limit (start given) cs
    ≡ record { past = past_of cs (outcomes_of limit (open_for given).next cs); ledger = ledger_after limit (open_for given).next cs }
run_agrees limit given cs = run_from limit (start given) cs

-- calls after calls
pub outcomes_append : (limit : ℕ) (l : Ledger) (cs ds : List Call)
    → outcomes_of limit l (cs ++ ds) ≡ outcomes_of limit l cs ++ outcomes_of limit (ledger_after limit l cs) ds
unfolding outcomes_of ledger_after
outcomes_append limit l [] ds = refl
outcomes_append limit l (c ∷ cs) ds = ap (outcome_of (step limit l c) ∷◌) (outcomes_append limit (step limit l c).next cs ds)

pub ledger_append : (limit : ℕ) (l : Ledger) (cs ds : List Call)
    → ledger_after limit l (cs ++ ds) ≡ ledger_after limit (ledger_after limit l cs) ds
unfolding ledger_after
ledger_append limit l [] ds = refl
ledger_append limit l (c ∷ cs) ds = ledger_append limit (step limit l c).next cs ds
