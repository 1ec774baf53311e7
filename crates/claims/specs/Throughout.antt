-- Document 01, "What demand 3 compares", of a list while it goes on: a property of what has happened and of the ledger, after every call.
use Rattle.std.specs.Prelude.{ℕ, List, [], ◌∷◌}
use Rattle.ledger.specs.Calls.{Call}
use Rattle.ledger.specs.Runs.{Run, then}

-- it holds where a list begins, and after each of its calls
unfoldable pub Throughout : (limit : ℕ) (holds : Run → Type 0) → Run → List Call → Type 0
Throughout limit holds s [] = holds s
Throughout limit holds s (c ∷ cs) = holds s × Throughout limit holds (then limit s c) cs
