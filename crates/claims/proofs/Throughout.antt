-- What holds of the end of every list holds after every call of a list, and the other way.
use Prim.Native.Nat.{ℕ}
use mathlib.Core.List.{List, [], ◌∷◌, ◌++◌}
use Rattle.ledger.specs.Calls.{Call}
use Rattle.ledger.specs.Runs.{Run, then, run}
use Rattle.claims.specs.Throughout.{Throughout}

pub after_every_call : (limit : ℕ) (holds : Run → Type 0) (s : Run) → ((cs : List Call) → holds (run limit s cs))
    → (cs : List Call) → Throughout limit holds s cs
unfolding Throughout run
after_every_call limit holds s ends [] = ends []
after_every_call limit holds s ends (c ∷ cs) =
    (ends [], after_every_call limit holds (then limit s c) (λ ds. ends (c ∷ ds)) cs)

pub at_each_call : (limit : ℕ) (holds : Run → Type 0) (s : Run) (cs ds : List Call) → Throughout limit holds s (cs ++ ds)
    → holds (run limit s cs)
unfolding Throughout run
at_each_call limit holds s [] [] h = h
at_each_call limit holds s [] (d ∷ ds) h = h.0
at_each_call limit holds s (c ∷ cs) ds h = at_each_call limit holds (then limit s c) cs ds h.1
