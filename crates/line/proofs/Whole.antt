-- A header that is sound and allowed stands whole in a part of the array and new bytes: what `decide` then promises.
use Prim.Native.Nat.{ℕ, ◌+◌, ◌-◌, ◌≤◌, ◌<◌}
use mathlib.Core.Bool.{Bool, true, false}
use mathlib.Core.List.{List, [], ◌++◌, append_assoc}
use mathlib.Core.Path.{◌≡◌, refl, sym, ap, ◌∙◌}
use native.Mathlib.Omega.{arith}
use lib.Dec.{eqb}
use lib.ListN.{length, take, drop, get_or, length-append, length-drop, take-append-drop, drop_of_length-le, get_or-append}
use lib.Seq.{take-add, take-append_seam, length-take-le, get_or-drop}
use Rattle.std.specs.Prelude.{Some}
use Rattle.checksum.specs.Checksum.{checksum_of}
use Rattle.message.specs.Bytes.{header_length, total, from_le16}
use Rattle.message.specs.Items.{Item, undecided, decided, type_in, len_in, seq_in, payload_in, payload_checksum_in, scan, payload_of}
use Rattle.message.specs.Writing.{placed}
use Rattle.message.specs.declared.Seq.{Seq}
use Rattle.message.specs.declared.Item.TheVariants.{DamagedPayload, Message}
use Rattle.message.proofs.Buffer.{front, tail}
use Rattle.message.proofs.Headers.{allowed_short}
use Rattle.message.proofs.More.{len_more, type_more, seq_more}
use Rattle.line.specs.Promises.{bytes_of, Decides}
use Rattle.line.specs.Receiving.{held_max, received_from, receive}
use Rattle.line.specs.declared.Part.{Part}
use Rattle.line.specs.declared.Place.TheVariants.{Held}
use Rattle.line.specs.declared.Decision.{Decision}
use Rattle.line.proofs.Gives.{undecided_left}
use Rattle.line.proofs.Moving.{length_part}
use Rattle.line.proofs.Reach.{reach}
use Rattle.line.proofs.Taking.{at_item}
use Rattle.line.proofs.Waiting.{Waiting, waiting, still_waiting, whole_damaged, whole_message, payload_behind, checksum_behind}

module _ (p : Part) (array new : List ℕ) (within : p.from + p.count ≤ length array) (long : header_length ≤ p.count + length new)
    (none : scan (bytes_of p array ++ take (header_length - p.count) new) ≡ undecided 0) where
  abbrev kept : ℕ
  kept = p.count

  abbrev held : List ℕ
  held = bytes_of p array

  size : length held ≡ kept
  size = length_part p.from p.count array within

  -- the new bytes that the header needs, and those behind them
  abbrev first : ℕ
  first = header_length - kept

  abbrev pub there : List ℕ
  there = held ++ take first new

  abbrev rest : List ℕ
  rest = drop first new

  size_first : length (take first new) ≡ first
  size_first = length-take-le first new (omega arith)

  size_there : length there ≡ kept + first
  size_there = length-append held (take first new) ∙ rw (size_first, size)

  long_there : header_length ≤ length there
  long_there = omega (arith, size_there)

  waits : Waiting there
  waits = waiting there (sym (undecided_left there none).0) none long_there

  -- the message is longer than the held bytes, and not longer than the longest one
  pub waits_for : (kept + first < total (len_in there)) × (total (len_in there) ≤ held_max + 1)
  waits_for = omega (arith, size_there, waits.short, allowed_short (type_in there) (len_in there) waits.fine)

  with_more : (m : ℕ) → held ++ take (first + m) new ≡ there ++ take m rest
  with_more m =
      ap (λ (l : List ℕ). held ++ l) (take-add first m new) ∙ sym (append_assoc held (take first new) (take m rest))

  with_all : held ++ new ≡ there ++ rest
  with_all =
      ap (λ (l : List ℕ). held ++ l) (sym (take-append-drop first new)) ∙ sym (append_assoc held (take first new) rest)

  -- not all of the message
  pub all_waits : kept + length new < total (len_in there) → scan (held ++ new) ≡ undecided 0
  all_waits short =
      let sum : length (there ++ rest) ≡ kept + length new = rw (← with_all) (length-append held new ∙ rw size) in
      rw with_all (still_waiting there rest waits long_there (omega arith))

  -- all of it, with need new bytes; without its SYN it stands at the front
  module _ (len need : ℕ) (is : len ≡ len_in there) (sum : kept + need ≡ total len) (enough : need ≤ length new) (exit : List ℕ)
      (full : length exit ≡ held_max) (stands : exit ≡ placed 0 (drop 2 (held ++ take need new)) array) where
    whole : kept + need ≡ total (len_in there)
    whole = sum ∙ ap total is

    abbrev pub ms : List ℕ
    ms = held ++ take need new

    abbrev m : ℕ
    m = need - first

    parts : ms ≡ there ++ take m rest
    parts =
        let sum : first + m ≡ need = omega (arith, waits_for) in
        rw sum at (with_more m)

    size_ms : length ms ≡ total (len_in there)
    size_ms = length-append held (take need new) ∙ rw (length-take-le need new enough, size) whole

    size_parts : length (there ++ take m rest) ≡ total (len_in there)
    size_parts = rw (← parts) size_ms

    len_ms : len_in ms ≡ len_in there
    len_ms = rw parts (len_more there (take m rest) long_there)

    type_ms : type_in ms ≡ type_in there
    type_ms = rw parts (type_more there (take m rest) long_there)

    seq_ms : seq_in ms ≡ seq_in there
    seq_ms = rw parts (seq_more there (take m rest) long_there)

    exit_is : exit ≡ drop 2 ms ++ drop (length (drop 2 ms)) array
    exit_is = stands ∙ sym (front (drop 2 ms) array)

    byte_is : (i : ℕ) → i < 8 → get_or exit i 0 ≡ get_or ms (2 + i) 0
    byte_is i small =
        rw (
          exit_is,
          get_or-append (drop 2 ms) (drop (length (drop 2 ms)) array) 0 i
              (rw (length-drop 2 ms, size_ms) (omega arith)),
        )
        (get_or-drop 2 ms i 0)

    -- whether the checksum behind the header is right: what `payload_is_sound` answers of the front
    abbrev behind : List ℕ
    behind = take (held_max - 6) (drop 6 exit)

    abbrev Tells : Bool → Type 0
    Tells sound = sound ≡ eqb (from_le16 (get_or behind len 0) (get_or behind (len + 1) 0)) (checksum_of (take len behind))

    compared : (sound : Bool) → Tells sound → eqb (payload_checksum_in ms) (checksum_of (payload_in ms)) ≡ sound
    compared sound tells =
        let all : behind ≡ drop 6 exit = rw full at (tail 6 exit) in
        sym (tells ∙ rw (all, exit_is)
        (checksum_behind ms (drop (length (drop 2 ms)) array) len (size_ms ∙ ap total (sym is)) (is ∙ sym len_ms)))

    item_is : {i : Item} {r : ℕ} → scan ms ≡ decided i 0 r → reach i ms ≡ total (len_in there) → receive held new
        ≡ received_from ms need
    item_is {i} {r} h reaches = at_item held new need {i = i} {d = 0} {r = r} enough h (rw reaches (omega (arith, whole, size)))

    pub gives_message : (d : Decision) (t : ℕ) (q : Seq) (sound : Bool) → Tells sound → sound ≡ true → t ≡ get_or exit 0 0 → q.0 ≡ get_or exit 3 0
        → d.answer ≡ Some (Message t q len) → d.taken ≡ need → d.start ≡ 0 → d.count ≡ 0 → d.payload ≡ Held 6 → Decides d held new exit
    unfolding payload_of
    gives_message d t q sound tells right first fourth answer takes start count payload =
        let good = compared sound tells ∙ right in
        let h = rw (← parts) at (whole_message there (take m rest) waits long_there size_parts (rw (← parts) good)) in
        let type : t ≡ type_in there = first ∙ byte_is 0 (omega arith) ∙ type_ms in
        let seq : q.0 ≡ seq_in there = fourth ∙ byte_is 3 (omega arith) ∙ seq_ms in
        let none : drop (0 + total (len_in there)) ms ≡ [] =
        drop_of_length-le ms {i = 0 + total (len_in there)} (omega (arith, size_ms)) in
        let part : take (len_in there) (drop 6 exit) ≡ take (len_in there) (drop header_length ms) =
        rw exit_is (payload_behind ms (drop (length (drop 2 ms)) array) (len_in there) size_ms) in
        record {
          gives = rw (answer, takes, start, count, payload, item_is h refl, h, type, seq, is, part, none);
          within = omega arith;
        }

    pub gives_damaged : (d : Decision) (sound : Bool) → Tells sound → sound ≡ false
        → d.answer ≡ Some DamagedPayload → d.taken ≡ need → d.start ≡ 0 → d.count ≡ kept + need - 2 → Decides d held new exit
    unfolding payload_of
    gives_damaged d sound tells wrong answer takes start all =
        let bad = compared sound tells ∙ wrong in
        let h = rw (← parts) at (whole_damaged there (take m rest) waits long_there size_parts (rw (← parts) bad)) in
        let count : length (drop 2 ms) ≡ kept + need - 2 = rw (length-drop 2 ms, size_ms) (omega arith) in
        let kept : take (kept + need - 2) exit ≡ drop 2 ms =
        rw (exit_is, ← count) (take-append_seam (drop 2 ms) (drop (length (drop 2 ms)) array)) in
        record {
          gives = rw (answer, takes, start, all, item_is h (ap total len_ms), h, kept);
          within = omega (arith, waits_for);
        }
