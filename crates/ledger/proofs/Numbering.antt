-- The numbers of answers: of a refused call its number alone, and one answer of each kind.
use Prim.Native.Nat.{ℕ}
use mathlib.Core.Option.{some}
use mathlib.Core.Path.{◌≡◌, refl}
use Rattle.ledger.specs.Parts.{Ledger}
use Rattle.ledger.specs.Numbers.{numbers_of, in_order, refusal_alone}
use Rattle.ledger.specs.NumberRows.{AllTell, tellings}
use Rattle.ledger.specs.Calls.{Call}
use Rattle.ledger.specs.Refusals.{refusal}
use Rattle.ledger.specs.Runs.{step}

pub refused_numbers : (limit : ℕ) (l : Ledger) (c : Call) (n : ℕ) → refusal limit l c ≡ some n
    → in_order (numbers_of (step limit l c).answer) ≡ refusal_alone n
unfolding step
refused_numbers limit l c n h = rw h

pub numbers_told : AllTell tellings
unfolding AllTell
numbers_told = (refl, (refl, (refl, (refl, (refl, (refl, (refl, (refl, (refl, (refl, (refl, tt)))))))))))
