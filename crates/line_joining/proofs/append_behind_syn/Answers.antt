-- `line_joining::append_behind_syn` meets its contract: what stands behind SYN at the front, in one move.
use Prim.Native.Nat.{ℕ, ◌+◌, ◌-◌, ◌≤◌}
use mathlib.Core.List.{List, ◌++◌}
use mathlib.Core.Path.{◌≡◌}
use native.Mathlib.Omega.{arith}
use lib.ListN.{length, take, drop, length-drop}
use lib.Seq.{length-take-le, drop-append-le, drop-drop}
use Rattle.message.specs.Writing.{placed}
use Rattle.message.proofs.Buffer.{neighbours_front}
use Rattle.std.proofs.lemmas.List.{drop-take}
use Rattle.line_joining.proofs.append_behind_syn.Goals as goal

module _ (from kept : ℕ) (m l : List ℕ) (within : from + kept ≤ length l) where
  size : length (take kept (drop from l)) ≡ kept
  size = length-take-le kept (drop from l) (rw (length-drop from l) (omega arith))

  -- SYN is held
  behind-syn : {x y : List ℕ} → 2 ≤ kept → kept + length m ≤ length l + 2 → x ≡ placed 0 (take (kept - 2) (drop (from + 2) l)) l
      → y ≡ placed (kept - 2) m x → y ≡ placed 0 (drop 2 (take kept (drop from l) ++ m)) l
  behind-syn some fits first second =
      let sum : 2 + (kept - 2) ≡ kept = omega arith in
      let part : drop 2 (take kept (drop from l)) ≡ take (kept - 2) (drop (from + 2) l) =
      rw (sum, drop-drop 2 from l) at (drop-take 2 (kept - 2) (drop from l)) in
      let count : length (take (kept - 2) (drop (from + 2) l)) ≡ kept - 2 =
      length-take-le (kept - 2) (drop (from + 2) l) (rw (length-drop (from + 2) l) (omega arith)) in
      rw (drop-append-le 2 (take kept (drop from l)) m (omega (arith, size)), part, second, first)
      (rw count at (neighbours_front (take (kept - 2) (drop (from + 2) l)) m l (omega (arith, count))))

pub returns : goal.returns
returns c =
    let a = c.args in
    behind-syn a.held.from a.held.count a.bytes.now a.array.now (omega arith) (omega arith) (omega arith)
    c.move_to_front.ensures
    c.put_at-2.ensures
