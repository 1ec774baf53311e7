-- More bytes at the end change nothing of what was decided.
use Prim.Native.Nat.{ℕ, suc, ◌+◌, ◌≤◌}
use mathlib.Core.Bool.{Bool, true, false, cond as if}
use mathlib.Core.List.{List, [], ◌∷◌, ◌++◌}
use mathlib.Core.Path.{◌≡◌, refl, ap, ◌∙◌}
use native.Mathlib.Omega.{arith}
use lib.Dec.{eqb}
use lib.ListN.{length, drop, length-append, length-drop, get_or-append}
use lib.Seq.{take-append-le, drop-append-le}
use Rattle.checksum.specs.Checksum.{checksum_of}
use Rattle.message.specs.Bytes.{header_length, total, allowed}
use Rattle.message.specs.Items.{Item, damaged_header, forbidden, damaged_payload, message, Scan, decided, stands, dropped, rules, scan, part_with, payload_of, type_in, len_in, seq_in, fields_in, header_checksum_in, payload_in, payload_checksum_in}
use Rattle.message.proofs.Dropping.{dropped_within}
use Rattle.message.proofs.Found.{found_at, message_at}
use Rattle.message.proofs.Rules.{Applied, by_1, by_2, by_3, by_4, by_5, by_6, applied, rule_2, rule_3, rule_5, rule_6}

-- dropping stops at the same place, where two bytes are left
same_place : (b : Bool) (x : ℕ) (xs : List ℕ) {d e : ℕ} → 2 ≤ length (drop (if b 0 (suc d)) (x ∷ xs))
    → (2 ≤ length (drop d xs) → e ≡ d) → if b 0 (suc e) ≡ if b 0 (suc d)
same_place true x xs h next = refl
same_place false x xs h next = ap suc (next h)

pub dropped_more : (xs ys : List ℕ) → 2 ≤ length (drop (dropped xs) xs) → dropped (xs ++ ys) ≡ dropped xs
unfolding dropped stands
dropped_more [] ys h = absurd (omega arith)
dropped_more (x ∷ []) ys h = absurd (omega (arith, length-drop (dropped (x ∷ [])) (x ∷ [])))
dropped_more (x ∷ y ∷ xs) ys h = same_place (stands (x ∷ y ∷ xs)) x (y ∷ xs) h (dropped_more (y ∷ xs) ys)

-- the parts of the bytes that are left, where there are enough of them
module _ (xs ys : List ℕ) (long : header_length ≤ length xs) where
  pub len_more : len_in (xs ++ ys) ≡ len_in xs
  len_more = rw (get_or-append xs ys 0 3 (omega arith), get_or-append xs ys 0 4 (omega arith))

  pub type_more : type_in (xs ++ ys) ≡ type_in xs
  type_more = get_or-append xs ys 0 2 (omega arith)

  pub seq_more : seq_in (xs ++ ys) ≡ seq_in xs
  seq_more = get_or-append xs ys 0 5 (omega arith)

  pub fields_more : fields_in (xs ++ ys) ≡ fields_in xs
  fields_more = rw (drop-append-le 2 xs ys (omega arith)) (take-append-le 4 (drop 2 xs) ys (simp length-drop (omega arith)))

  pub sum_more : header_checksum_in (xs ++ ys) ≡ header_checksum_in xs
  sum_more = rw (get_or-append xs ys 0 6 (omega arith), get_or-append xs ys 0 7 (omega arith))

  pub sound_more : eqb (header_checksum_in (xs ++ ys)) (checksum_of (fields_in (xs ++ ys)))
      ≡ eqb (header_checksum_in xs) (checksum_of (fields_in xs))
  sound_more = rw (sum_more, fields_more)

  pub allowed_more : allowed (type_in (xs ++ ys)) (len_in (xs ++ ys)) ≡ allowed (type_in xs) (len_in xs)
  allowed_more = rw (type_more, len_more)

  pub long_more : header_length ≤ length (xs ++ ys)
  long_more = rw (length-append xs ys) (omega arith)

  module _ (whole : total (len_in xs) ≤ length xs) where
    pub whole_more : total (len_in (xs ++ ys)) ≤ length (xs ++ ys)
    whole_more = rw (len_more, length-append xs ys) (omega arith)

    pub payload_more : payload_in (xs ++ ys) ≡ payload_in xs
    payload_more =
        rw (len_more, drop-append-le header_length xs ys (omega arith))
        (take-append-le (len_in xs) (drop header_length xs) ys (simp length-drop (omega arith)))

    pub stored_more : payload_checksum_in (xs ++ ys) ≡ payload_checksum_in xs
    stored_more =
        rw (
          len_more,
          get_or-append xs ys 0 (header_length + len_in xs) (omega arith),
          get_or-append xs ys 0 (header_length + len_in xs + 1) (omega arith),
        )

    pub good_more : eqb (payload_checksum_in (xs ++ ys)) (checksum_of (payload_in (xs ++ ys)))
        ≡ eqb (payload_checksum_in xs) (checksum_of (payload_in xs))
    good_more = rw (stored_more, payload_more)

-- so the rules decide the same
rules_more : (n : ℕ) (xs ys : List ℕ) {i : Item} {d r : ℕ} (s : Scan) → Applied n xs s → s ≡ decided i d r → rules n (xs ++ ys) ≡ s
rules_more n xs ys s (by_1 short e) h = let z : ◌≡◌ {A = ℕ} 0 1 = cc in absurd (omega arith)
rules_more n xs ys s (by_2 long bad e) h = rw e (rule_2 n (xs ++ ys) (long_more xs ys long) (sound_more xs ys long ∙ bad))
rules_more n xs ys s (by_3 long sound bad e) h =
    rw e (rule_3 n (xs ++ ys) (long_more xs ys long) (sound_more xs ys long ∙ sound) (allowed_more xs ys long ∙ bad))
rules_more n xs ys s (by_4 long sound fine short e) h = let z : ◌≡◌ {A = ℕ} 0 1 = cc in absurd (omega arith)
rules_more n xs ys s (by_5 long sound fine whole bad e) h =
    rw e
    (rule_5 n (xs ++ ys) (long_more xs ys long) (sound_more xs ys long ∙ sound) (allowed_more xs ys long ∙ fine)
    (whole_more xs ys long whole)
    (good_more xs ys long whole ∙ bad))
rules_more n xs ys s (by_6 long sound fine whole good e) h =
    rw (e, ← type_more xs ys long, ← seq_more xs ys long, ← len_more xs ys long)
    (rule_6 n (xs ++ ys) (long_more xs ys long) (sound_more xs ys long ∙ sound) (allowed_more xs ys long ∙ fine)
    (whole_more xs ys long whole)
    (good_more xs ys long whole ∙ good))

-- and `scan` with them
pub scan_more : (xs ys : List ℕ) {i : Item} {d r : ℕ} → scan xs ≡ decided i d r → scan (xs ++ ys) ≡ decided i d r
unfolding scan
scan_more xs ys h =
    let f = found_at xs h in
    rw (dropped_more xs ys (omega arith), drop-append-le (dropped xs) xs ys (dropped_within xs))
    (rules_more (dropped xs) (drop (dropped xs) xs) ys (scan xs) (applied (dropped xs) (drop (dropped xs) xs)) h ∙ h)

-- and the payload of what was found
part_more : (i : Item) (d r : ℕ) (xs ys : List ℕ) → scan xs ≡ decided i d r
    → part_with (decided i d r) (xs ++ ys) ≡ part_with (decided i d r) xs
part_more damaged_header d r xs ys h = refl
part_more forbidden d r xs ys h = refl
part_more damaged_payload d r xs ys h = refl
part_more (message t q len) d r xs ys h =
    let m = message_at xs h in
    let in_bytes : d + total len ≤ length xs = omega (arith, dropped_within xs, length-drop (dropped xs) xs) in
    rw (drop-append-le (d + header_length) xs ys (omega arith))
    (take-append-le len (drop (d + header_length) xs) ys (simp length-drop (omega arith)))

pub payload_of_more : (xs ys : List ℕ) {i : Item} {d r : ℕ} → scan xs ≡ decided i d r → payload_of (xs ++ ys) ≡ payload_of xs
unfolding payload_of
payload_of_more xs ys {i} {d} {r} h = rw (scan_more xs ys h, h) (part_more i d r xs ys h)
