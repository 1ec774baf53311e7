-- The bytes removed with an item that was found are those that its rule removes.
use Prim.Native.Nat.{ℕ}
use mathlib.Core.List.{List}
use mathlib.Core.Path.{◌≡◌}
use native.Mathlib.Omega.{arith}
use lib.ListN.{drop}
use Rattle.message.specs.Items.{Item, Scan, decided, dropped, removed_with, found, scan}
use Rattle.message.proofs.Rules.{Applied, by_1, by_2, by_3, by_4, by_5, by_6, applied}

-- what was found is one item, with its own bytes
own : (n : ℕ) (s : Scan) (item : Item) {i : Item} {d r : ℕ} → s ≡ found n item → s ≡ decided i d r → r ≡ removed_with i
own n s item {i} {d} {r} e h = let same : i ≡ item = cc in let count : r ≡ removed_with item = cc in rw same count

removed_by : (n : ℕ) (xs : List ℕ) {i : Item} {d r : ℕ} (s : Scan) → Applied n xs s → s ≡ decided i d r → r ≡ removed_with i
removed_by n xs s (by_1 short e) h = let z : ◌≡◌ {A = ℕ} 0 1 = cc in absurd (omega arith)
removed_by n xs s (by_2 long bad e) h = own n s _ e h
removed_by n xs s (by_3 long sound bad e) h = own n s _ e h
removed_by n xs s (by_4 long sound fine short e) h = let z : ◌≡◌ {A = ℕ} 0 1 = cc in absurd (omega arith)
removed_by n xs s (by_5 long sound fine whole bad e) h = own n s _ e h
removed_by n xs s (by_6 long sound fine whole good e) h = own n s _ e h

pub removed : (xs : List ℕ) {i : Item} {d r : ℕ} → scan xs ≡ decided i d r → r ≡ removed_with i
unfolding scan
removed xs h = removed_by (dropped xs) (drop (dropped xs) xs) (scan xs) (applied (dropped xs) (drop (dropped xs) xs)) h
