-- Data put into a room of a store: they stand there, and the held bytes and the other rooms stay.
use Prim.Native.Nat.{ℕ, ◌+◌, ◌-◌, ◌≤◌, ◌<◌}
use mathlib.Core.Bool.{Bool, true, false}
use mathlib.Core.List.{List, ◌++◌}
use mathlib.Core.Path.{◌≡◌, refl, sym, ap, ◌∙◌}
use mathlib.Core.Logic.{◌≢◌}
use native.Mathlib.Omega.{arith}
use lib.Dec.{ltb}
use lib.ListN.{length, take, drop, length-take}
use lib.Seq.{take_at, take-take}
use borrow.Author.Tests.{ltb-true, ltb-false}
use Rattle.message.specs.Writing.{placed}
use Rattle.message.proofs.Buffer.{length_placed, from_placed, beyond_placed}
use Rattle.line.specs.Receiving.{held_max}
use Rattle.std.proofs.lemmas.List.{drop-take}
use Rattle.command.specs.Payload.{max_data}
use Rattle.ledger.specs.Parts.{live_max}
use Rattle.endpoint.specs.Endpoint.{room_place, store_length, room_at}

-- the data of every row but one stand in a store as they did in another
abbrev pub OthersStay : (row : ℕ) (entry exit : List ℕ) → Type 0
OthersStay row entry exit = (k n : ℕ) → k < live_max → k ≢ row → n ≤ max_data → room_at exit k n ≡ room_at entry k n

module _ (row : ℕ) (m l : List ℕ) (long : length l ≡ store_length) (is : row < live_max) (short : length m ≤ max_data) where
  within : room_place row + length m ≤ length l
  within = omega arith

  pub length_filled : length (placed (room_place row) m l) ≡ store_length
  length_filled = length_placed (room_place row) m l within ∙ long

  pub filled : room_at (placed (room_place row) m l) row (length m) ≡ m
  filled =
      ap (take (length m)) (from_placed (room_place row) m l within)
      ∙ take_at m (drop (room_place row + length m) l) (length m) refl

  -- what stands before it
  earlier : (n : ℕ) → n ≤ room_place row → take n (placed (room_place row) m l) ≡ take n l
  unfolding placed
  earlier n less =
      let front : take (room_place row) (placed (room_place row) m l) ≡ take (room_place row) l =
      take_at (take (room_place row) l) (m ++ drop (room_place row + length m) l) (room_place row) (simp length-take (omega arith)) in
      sym (take-take n (room_place row) (placed (room_place row) m l) less)
      ∙ ap (take n) front ∙ take-take n (room_place row) l less

  pub held_stay : take held_max (placed (room_place row) m l) ≡ take held_max l
  held_stay = earlier held_max (omega arith)

  other : (k n : ℕ) (before : Bool) → ltb k row ≡ before → k ≢ row → n ≤ max_data
      → room_at (placed (room_place row) m l) k n ≡ room_at l k n
  other k n true t differs few =
      let less : k < row = ltb-true k row t in
      sym (drop-take (room_place k) n (placed (room_place row) m l))
      ∙ ap (drop (room_place k)) (earlier (room_place k + n) (omega arith)) ∙ drop-take (room_place k) n l
  other k n false t differs few =
      let over : row ≤ k = ltb-false k row t in
      let sum : room_place row + length m + (room_place k - (room_place row + length m)) ≡ room_place k = omega arith in
      ap (take n) (rw sum at (beyond_placed (room_place row) m l within (room_place k - (room_place row + length m))))

  pub others_stay : OthersStay row l (placed (room_place row) m l)
  others_stay k n in_use differs few = other k n (ltb k row) refl differs few
