-- What the reader's seven numbers tell: which message was read, its payload's part, and that the payload's place lies within the bytes.
use Prim.Native.Nat.{ℕ, ◌+◌, ◌≤◌}
use mathlib.Core.List.{List}
use mathlib.Core.Path.{◌≡◌, refl}
use native.Mathlib.Omega.{arith}
use lib.ListN.{length, take, drop}
use Rattle.message.proofs.Found.{scan_within, message_at}
use Rattle.message.specs.Bytes.{header_length}
use Rattle.message.specs.Items.{damaged_header, forbidden, damaged_payload, message, Scan, undecided, decided, scan, part_with, payload_of}
use Rattle.c_api.specs.Numbers.{numbers, numbers_of, place_of}

-- rule 6 tells a message, with its numbers
pub message_told : (s : Scan) {t q p n d r : ℕ} → numbers_of s ≡ numbers 6 t q p n d r → s ≡ decided (message t q n) d r
message_told (undecided m) h = let z : ◌≡◌ {A = ℕ} 0 1 = cc in absurd (omega arith)
message_told (decided damaged_header m k) h = let z : ◌≡◌ {A = ℕ} 0 1 = cc in absurd (omega arith)
message_told (decided forbidden m k) h = let z : ◌≡◌ {A = ℕ} 0 1 = cc in absurd (omega arith)
message_told (decided damaged_payload m k) h = let z : ◌≡◌ {A = ℕ} 0 1 = cc in absurd (omega arith)
message_told (decided (message type seq len) m k) h = cc

-- the place and the length name the payload, in the bytes that were read
named : (s : Scan) (xs : List ℕ) {i t q p n d r : ℕ} → numbers_of s ≡ numbers i t q p n d r → take n (drop p xs) ≡ part_with s xs
named (undecided m) xs {i} {t} {q} {p} {n} h = let none : n ≡ 0 = cc in rw none
named (decided damaged_header m k) xs {i} {t} {q} {p} {n} h = let none : n ≡ 0 = cc in rw none
named (decided forbidden m k) xs {i} {t} {q} {p} {n} h = let none : n ≡ 0 = cc in rw none
named (decided damaged_payload m k) xs {i} {t} {q} {p} {n} h = let none : n ≡ 0 = cc in rw none
named (decided (message type seq len) m k) xs {i} {t} {q} {p} {n} h =
    let count : n ≡ len = cc in let place : p ≡ m + header_length = cc in rw (count, place)

pub payload_named : (xs : List ℕ) {i t q p n d r : ℕ} → numbers_of (scan xs) ≡ numbers i t q p n d r
    → take n (drop p xs) ≡ payload_of xs
unfolding payload_of
payload_named xs h = named (scan xs) xs h

-- the place lies within the bytes
inside : (s : Scan) (xs : List ℕ) → scan xs ≡ s → place_of s ≤ length xs
inside (undecided m) xs h = omega arith
inside (decided damaged_header m k) xs h = omega arith
inside (decided forbidden m k) xs h = omega arith
inside (decided damaged_payload m k) xs h = omega arith
inside (decided (message type seq len) m k) xs h =
    let within = scan_within xs h in let found = message_at xs h in omega (arith, found.removed)

pub place_within : (xs : List ℕ) → place_of (scan xs) ≤ length xs
place_within xs = inside (scan xs) xs refl
