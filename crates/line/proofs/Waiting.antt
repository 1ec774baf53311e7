-- A whole header that is sound and allowed: what it waits for, and the item when the message is whole.
use Prim.Native.Nat.{ℕ, ◌+◌, ◌≤◌, ◌<◌}
use mathlib.Core.Bool.{true, false}
use mathlib.Core.List.{List, ◌++◌}
use mathlib.Core.Path.{◌≡◌, sym, ap, ◌∙◌}
use native.Mathlib.Omega.{arith}
use lib.Dec.{eqb}
use lib.ListN.{length, take, drop, get_or, length-append, length-drop, get_or-append}
use lib.Seq.{take-append-le, drop-append-le, drop-drop, get_or-drop}
use Rattle.checksum.specs.Checksum.{checksum_of}
use Rattle.message.specs.Bytes.{header_length, total, allowed, from_le16}
use Rattle.message.specs.Items.{damaged_payload, message, Scan, undecided, decided, dropped, type_in, len_in, seq_in, fields_in, header_checksum_in, payload_in, payload_checksum_in, rules, scan}
use Rattle.message.proofs.More.{len_more, type_more, seq_more, sound_more, allowed_more, dropped_more}
use Rattle.message.proofs.Rules.{Applied, by_1, by_2, by_3, by_4, by_5, by_6, applied, rule_4, rule_5, rule_6}

-- bytes that wait for the rest of a message
pub record Waiting (xs : List ℕ) : Type 0 where
  pub front : dropped xs ≡ 0
  pub sound : eqb (header_checksum_in xs) (checksum_of (fields_in xs)) ≡ true
  pub fine : allowed (type_in xs) (len_in xs) ≡ true
  pub short : length xs < total (len_in xs)

waiting_by : (n : ℕ) (xs : List ℕ) {e : ℕ} (s : Scan) → Applied n xs s → s ≡ undecided e → header_length ≤ length xs → dropped xs ≡ 0
    → Waiting xs
waiting_by n xs s (by_1 short e) h long none = absurd (omega arith)
waiting_by n xs s (by_2 long bad e) h l none = let z : ◌≡◌ {A = ℕ} 0 1 = cc in absurd (omega arith)
waiting_by n xs s (by_3 long sound bad e) h l none = let z : ◌≡◌ {A = ℕ} 0 1 = cc in absurd (omega arith)
waiting_by n xs s (by_4 long sound fine short e) h l none = record { front = none; sound = sound; fine = fine; short = short }
waiting_by n xs s (by_5 long sound fine whole bad e) h l none = let z : ◌≡◌ {A = ℕ} 0 1 = cc in absurd (omega arith)
waiting_by n xs s (by_6 long sound fine whole good e) h l none = let z : ◌≡◌ {A = ℕ} 0 1 = cc in absurd (omega arith)

front_rules : (xs : List ℕ) → dropped xs ≡ 0 → scan xs ≡ rules 0 xs
unfolding scan
front_rules xs none = rw none

pub waiting : (xs : List ℕ) → dropped xs ≡ 0 → scan xs ≡ undecided 0 → header_length ≤ length xs → Waiting xs
waiting xs none h long = waiting_by 0 xs (rules 0 xs) (applied 0 xs) (sym (front_rules xs none) ∙ h) long none

module _ (xs ys : List ℕ) (w : Waiting xs) (long : header_length ≤ length xs) where
  front_more : dropped (xs ++ ys) ≡ 0
  front_more = dropped_more xs ys (rw w.front (omega arith)) ∙ w.front

  more_long : header_length ≤ length (xs ++ ys)
  more_long = rw (length-append xs ys) (omega arith)

  -- more bytes, but not all of the message
  pub still_waiting : length (xs ++ ys) < total (len_in xs) → scan (xs ++ ys) ≡ undecided 0
  still_waiting short =
      front_rules (xs ++ ys) front_more
      ∙ rule_4 0 (xs ++ ys) more_long (sound_more xs ys long ∙ w.sound) (allowed_more xs ys long ∙ w.fine)
      (rw (len_more xs ys long) short)

  -- the whole message
  module _ (whole : length (xs ++ ys) ≡ total (len_in xs)) where
    enough : total (len_in (xs ++ ys)) ≤ length (xs ++ ys)
    enough = rw (len_more xs ys long) (omega arith)

    pub whole_damaged : eqb (payload_checksum_in (xs ++ ys)) (checksum_of (payload_in (xs ++ ys))) ≡ false
        → scan (xs ++ ys) ≡ decided damaged_payload 0 2
    whole_damaged bad =
        front_rules (xs ++ ys) front_more
        ∙ rule_5 0 (xs ++ ys) more_long (sound_more xs ys long ∙ w.sound) (allowed_more xs ys long ∙ w.fine) enough bad

    pub whole_message : eqb (payload_checksum_in (xs ++ ys)) (checksum_of (payload_in (xs ++ ys))) ≡ true
        → scan (xs ++ ys) ≡ decided (message (type_in xs) (seq_in xs) (len_in xs)) 0 (total (len_in xs))
    whole_message good =
        front_rules (xs ++ ys) front_more
        ∙ rw (← type_more xs ys long, ← seq_more xs ys long, ← len_more xs ys long)
        (rule_6 0 (xs ++ ys) more_long (sound_more xs ys long ∙ w.sound) (allowed_more xs ys long ∙ w.fine) enough good)

-- the bytes behind SYN, with anything after them: payload and checksum are read six bytes on
module _ (ms ts : List ℕ) (n : ℕ) (size : length ms ≡ total n) where
  from_6 : drop 6 (drop 2 ms ++ ts) ≡ drop header_length ms ++ ts
  from_6 =
      drop-append-le 6 (drop 2 ms) ts (rw (length-drop 2 ms) (omega arith))
      ∙ ap (λ (l : List ℕ). l ++ ts) (drop-drop 6 2 ms)

  behind : length (drop header_length ms) ≡ n + 2
  behind = rw (length-drop header_length ms) (omega arith)

  pub payload_behind : take n (drop 6 (drop 2 ms ++ ts)) ≡ take n (drop header_length ms)
  payload_behind = rw from_6 (take-append-le n (drop header_length ms) ts (omega (arith, behind)))

  pub checksum_behind : n ≡ len_in ms
      → eqb (from_le16 (get_or (drop 6 (drop 2 ms ++ ts)) n 0) (get_or (drop 6 (drop 2 ms ++ ts)) (n + 1) 0))
      (checksum_of (take n (drop 6 (drop 2 ms ++ ts))))
      ≡ eqb (payload_checksum_in ms) (checksum_of (payload_in ms))
  checksum_behind count =
      let next : header_length + (n + 1) ≡ header_length + n + 1 = omega arith in
      rw (
        payload_behind,
        from_6,
        get_or-append (drop header_length ms) ts 0 n (omega (arith, behind)),
        get_or-append (drop header_length ms) ts 0 (n + 1) (omega (arith, behind)),
        get_or-drop header_length ms n 0,
        get_or-drop header_length ms (n + 1) 0,
        next,
        count,
      )
