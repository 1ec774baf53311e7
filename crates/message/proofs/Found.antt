-- What a decided item tells of the bytes: where it stands, and that they hold all of it.
use Prim.Native.Nat.{ℕ, ◌+◌, ◌≤◌}
use mathlib.Core.Bool.{true}
use mathlib.Core.List.{List}
use mathlib.Core.Path.{◌≡◌}
use native.Mathlib.Omega.{arith}
use lib.ListN.{length, drop, length-drop}
use borrow.Author.Tests.{eqb-true}
use Rattle.checksum.specs.Checksum.{checksum_of}
use Rattle.message.specs.Items as items
use Rattle.message.specs.Bytes.{header_length, total, allowed}
use Rattle.message.specs.Items.{Item, Scan, decided, dropped, removed_with, scan, type_in, len_in, seq_in, fields_in, header_checksum_in, payload_in, payload_checksum_in}
use Rattle.message.proofs.Dropping.{dropped_within}
use Rattle.message.proofs.Rules.{Applied, by_1, by_2, by_3, by_4, by_5, by_6, applied}

-- an item that was found n bytes after the start, at the front of xs
pub record FoundAt (n : ℕ) (xs : List ℕ) (d r : ℕ) : Type 0 where
  pub place : d ≡ n
  pub long : header_length ≤ length xs
  pub some : 2 ≤ r
  pub within : r ≤ length xs

found_by : (n : ℕ) (xs : List ℕ) {i : Item} {d r : ℕ} (s : Scan) → Applied n xs s → s ≡ decided i d r → FoundAt n xs d r
found_by n xs s (by_1 short e) h = let z : ◌≡◌ {A = ℕ} 0 1 = cc in absurd (omega arith)
found_by n xs {i} {d} {r} s (by_2 long bad e) h =
    let count : r ≡ removed_with items.damaged_header = cc in record { place = cc; long = long; some = omega arith; within = omega arith }
found_by n xs {i} {d} {r} s (by_3 long sound bad e) h =
    let count : r ≡ removed_with items.forbidden = cc in record { place = cc; long = long; some = omega arith; within = omega arith }
found_by n xs s (by_4 long sound fine short e) h = let z : ◌≡◌ {A = ℕ} 0 1 = cc in absurd (omega arith)
found_by n xs {i} {d} {r} s (by_5 long sound fine whole bad e) h =
    let count : r ≡ removed_with items.damaged_payload = cc in record { place = cc; long = long; some = omega arith; within = omega arith }
found_by n xs {i} {d} {r} s (by_6 long sound fine whole good e) h =
    let count : r ≡ total (len_in xs) = cc in record { place = cc; long = long; some = omega arith; within = omega arith }

pub found_at : (xs : List ℕ) {i : Item} {d r : ℕ} → scan xs ≡ decided i d r → FoundAt (dropped xs) (drop (dropped xs) xs) d r
unfolding scan
found_at xs h = found_by (dropped xs) (drop (dropped xs) xs) (scan xs) (applied (dropped xs) (drop (dropped xs) xs)) h

-- an item lies within the bytes, and takes two of them at least
pub scan_within : (xs : List ℕ) {i : Item} {d r : ℕ} → scan xs ≡ decided i d r → (d + r ≤ length xs) × (2 ≤ r)
scan_within xs h = let f = found_at xs h in omega (arith, dropped_within xs, length-drop (dropped xs) xs)

-- a message that was found so
pub record MessageAt (n : ℕ) (xs : List ℕ) (t q len d r : ℕ) : Type 0 where
  pub place : d ≡ n
  pub type : t ≡ type_in xs
  pub seq : q ≡ seq_in xs
  pub count : len ≡ len_in xs
  pub removed : r ≡ total len
  pub sound : header_checksum_in xs ≡ checksum_of (fields_in xs)
  pub fine : allowed t len ≡ true
  pub whole : total (len_in xs) ≤ length xs
  pub good : payload_checksum_in xs ≡ checksum_of (payload_in xs)

message_by : (n : ℕ) (xs : List ℕ) {t q len d r : ℕ} (s : Scan) → Applied n xs s → s ≡ decided (items.message t q len) d r
    → MessageAt n xs t q len d r
message_by n xs s (by_1 short e) h = let z : ◌≡◌ {A = ℕ} 0 1 = cc in absurd (omega arith)
message_by n xs s (by_2 long bad e) h = let z : ◌≡◌ {A = ℕ} 0 1 = cc in absurd (omega arith)
message_by n xs s (by_3 long sound bad e) h = let z : ◌≡◌ {A = ℕ} 0 1 = cc in absurd (omega arith)
message_by n xs s (by_4 long sound fine short e) h = let z : ◌≡◌ {A = ℕ} 0 1 = cc in absurd (omega arith)
message_by n xs s (by_5 long sound fine whole bad e) h = let z : ◌≡◌ {A = ℕ} 0 1 = cc in absurd (omega arith)
message_by n xs {t} {q} {len} {d} {r} s (by_6 long sound fine whole good e) h =
    let type : t ≡ type_in xs = cc in
    let count : len ≡ len_in xs = cc in
    record {
      place = cc;
      type = type;
      seq = cc;
      count = count;
      removed = cc;
      sound = eqb-true _ _ sound;
      fine = rw (type, count) fine;
      whole = whole;
      good = eqb-true _ _ good;
    }

pub message_at : (xs : List ℕ) {t q len d r : ℕ} → scan xs ≡ decided (items.message t q len) d r
    → MessageAt (dropped xs) (drop (dropped xs) xs) t q len d r
unfolding scan
message_at xs h = message_by (dropped xs) (drop (dropped xs) xs) (scan xs) (applied (dropped xs) (drop (dropped xs) xs)) h
