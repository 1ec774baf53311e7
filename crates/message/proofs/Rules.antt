-- The cases of the six rules, each from the tests that lead to it.
use Prim.Native.Nat.{ℕ, ◌≤◌, ◌<◌}
use mathlib.Core.Bool.{Bool, true, false}
use mathlib.Core.List.{List}
use mathlib.Core.Path.{◌≡◌, refl}
use lib.Dec.{eqb, ltb}
use lib.ListN.{length}
use borrow.Author.Tests.{lt-ltb, le-ltb, ltb-true, ltb-false}
use Rattle.checksum.specs.Checksum.{checksum_of}
use Rattle.message.specs.Bytes.{header_length, allowed, total}
use Rattle.message.specs.Items.{Scan, damaged_header, forbidden, damaged_payload, message, undecided, found, rules, type_in, len_in, seq_in, fields_in, header_checksum_in, payload_in, payload_checksum_in}

module _ (n : ℕ) (xs : List ℕ) where
  pub rule_1 : length xs < header_length → rules n xs ≡ undecided n
  unfolding rules
  rule_1 short = rw (lt-ltb (length xs) header_length short)

  module _ (long : header_length ≤ length xs) where
    pub rule_2 : eqb (header_checksum_in xs) (checksum_of (fields_in xs)) ≡ false → rules n xs ≡ found n damaged_header
    unfolding rules
    rule_2 bad = rw (le-ltb (length xs) header_length long, bad)

    module _ (sound : eqb (header_checksum_in xs) (checksum_of (fields_in xs)) ≡ true) where
      pub rule_3 : allowed (type_in xs) (len_in xs) ≡ false → rules n xs ≡ found n forbidden
      unfolding rules
      rule_3 bad = rw (le-ltb (length xs) header_length long, sound, bad)

      module _ (fine : allowed (type_in xs) (len_in xs) ≡ true) where
        pub rule_4 : length xs < total (len_in xs) → rules n xs ≡ undecided n
        unfolding rules
        rule_4 short = rw (le-ltb (length xs) header_length long, sound, fine, lt-ltb (length xs) (total (len_in xs)) short)

        pub rule_5 : total (len_in xs) ≤ length xs → eqb (payload_checksum_in xs) (checksum_of (payload_in xs)) ≡ false
            → rules n xs ≡ found n damaged_payload
        unfolding rules
        rule_5 whole bad = rw (le-ltb (length xs) header_length long, sound, fine, le-ltb (length xs) (total (len_in xs)) whole, bad)

        pub rule_6 : total (len_in xs) ≤ length xs → eqb (payload_checksum_in xs) (checksum_of (payload_in xs)) ≡ true
            → rules n xs ≡ found n (message (type_in xs) (seq_in xs) (len_in xs))
        unfolding rules
        rule_6 whole good =
            rw (le-ltb (length xs) header_length long, sound, fine, le-ltb (length xs) (total (len_in xs)) whole, good)

-- which rule applied, with the tests that led to it
pub data Applied (n : ℕ) (xs : List ℕ) (s : Scan) : Type 0 where
  by_1 : length xs < header_length → s ≡ undecided n → Applied n xs s
  by_2 : header_length ≤ length xs → eqb (header_checksum_in xs) (checksum_of (fields_in xs)) ≡ false → s ≡ found n damaged_header
      → Applied n xs s
  by_3 : header_length ≤ length xs → eqb (header_checksum_in xs) (checksum_of (fields_in xs)) ≡ true
      → allowed (type_in xs) (len_in xs) ≡ false → s ≡ found n forbidden → Applied n xs s
  by_4 : header_length ≤ length xs → eqb (header_checksum_in xs) (checksum_of (fields_in xs)) ≡ true
      → allowed (type_in xs) (len_in xs) ≡ true → length xs < total (len_in xs) → s ≡ undecided n → Applied n xs s
  by_5 : header_length ≤ length xs → eqb (header_checksum_in xs) (checksum_of (fields_in xs)) ≡ true
      → allowed (type_in xs) (len_in xs) ≡ true → total (len_in xs) ≤ length xs
      → eqb (payload_checksum_in xs) (checksum_of (payload_in xs)) ≡ false → s ≡ found n damaged_payload → Applied n xs s
  by_6 : header_length ≤ length xs → eqb (header_checksum_in xs) (checksum_of (fields_in xs)) ≡ true
      → allowed (type_in xs) (len_in xs) ≡ true → total (len_in xs) ≤ length xs
      → eqb (payload_checksum_in xs) (checksum_of (payload_in xs)) ≡ true
      → s ≡ found n (message (type_in xs) (seq_in xs) (len_in xs)) → Applied n xs s

module _ (n : ℕ) (xs : List ℕ) where
  module _ (long : header_length ≤ length xs) (sound : eqb (header_checksum_in xs) (checksum_of (fields_in xs)) ≡ true)
      (fine : allowed (type_in xs) (len_in xs) ≡ true) where
    at_payload : (whole : total (len_in xs) ≤ length xs) (b : Bool) → eqb (payload_checksum_in xs) (checksum_of (payload_in xs)) ≡ b
        → Applied n xs (rules n xs)
    at_payload whole true h = by_6 long sound fine whole h (rule_6 n xs long sound fine whole h)
    at_payload whole false h = by_5 long sound fine whole h (rule_5 n xs long sound fine whole h)

    at_length : (b : Bool) → ltb (length xs) (total (len_in xs)) ≡ b → Applied n xs (rules n xs)
    at_length true h =
        by_4 long sound fine (ltb-true _ _ h) (rule_4 n xs long sound fine (ltb-true _ _ h))
    at_length false h = at_payload (ltb-false _ _ h) (eqb (payload_checksum_in xs) (checksum_of (payload_in xs))) refl

  at_header : (long : header_length ≤ length xs) → eqb (header_checksum_in xs) (checksum_of (fields_in xs)) ≡ true → (b : Bool)
      → allowed (type_in xs) (len_in xs) ≡ b → Applied n xs (rules n xs)
  at_header long sound true h = at_length long sound h (ltb (length xs) (total (len_in xs))) refl
  at_header long sound false h = by_3 long sound h (rule_3 n xs long sound h)

  at_checksum : header_length ≤ length xs → (b : Bool) → eqb (header_checksum_in xs) (checksum_of (fields_in xs)) ≡ b
      → Applied n xs (rules n xs)
  at_checksum long true h = at_header long h (allowed (type_in xs) (len_in xs)) refl
  at_checksum long false h = by_2 long h (rule_2 n xs long h)

  at_start : (b : Bool) → ltb (length xs) header_length ≡ b → Applied n xs (rules n xs)
  at_start true h = by_1 (ltb-true _ _ h) (rule_1 n xs (ltb-true _ _ h))
  at_start false h = at_checksum (ltb-false _ _ h) (eqb (header_checksum_in xs) (checksum_of (fields_in xs))) refl

  pub applied : Applied n xs (rules n xs)
  applied = at_start (ltb (length xs) header_length) refl
