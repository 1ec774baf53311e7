-- The start of a header is held: what new bytes make of it, and what `decide` then promises.
use Prim.Native.Nat.{ℕ, ◌+◌, ◌≤◌, ◌<◌}
use mathlib.Core.Bool.{Bool, true, false, true≢false, not, ◌&&◌, and-false}
use mathlib.Core.List.{List, [], ◌∷◌, ◌++◌}
use mathlib.Core.Path.{◌≡◌, refl, sym, ap, ◌∙◌}
use native.Mathlib.Omega.{arith}
use lib.Dec.{eqb, ltb}
use lib.ListN.{length, take, drop, get_or, length-append, length-take, length-drop}
use lib.Seq.{take-length, length-take-le, get_or-take}
use borrow.Author.Tests.{eq-eqb, eqb-true, ltb-true, lt-ltb, not-true}
use Rattle.std.specs.Prelude.{Some}
use Rattle.message.specs.Bytes.{header_length, syn2}
use Rattle.message.specs.Items.{Scan, undecided, decided, stands, dropped, scan, payload_of}
use Rattle.message.specs.Promises.{item_of}
use Rattle.message.specs.Writing.{placed}
use Rattle.message.specs.declared.Item.{Item}
use Rattle.message.specs.declared.Item.TheVariants.{DamagedHeader, Forbidden, DamagedPayload, Message}
use Rattle.message.proofs.Dropping.{dropped_here, stands_left}
use Rattle.message.proofs.Found.{message_at}
use Rattle.message.proofs.Headers.{both}
use Rattle.message.proofs.Rules.{Applied, by_1, by_2, by_3, by_4, by_5, by_6, applied, rule_1}
use Rattle.line.specs.Code.{breaks}
use Rattle.line.specs.Promises.{bytes_of, Decides, part_of}
use Rattle.line.specs.Receiving.{held_max, receive}
use Rattle.line.specs.declared.Part.{Part}
use Rattle.line.specs.declared.Place.{Place}
use Rattle.line.specs.declared.Decision.{Decision}
use Rattle.line.proofs.Gives.{undecided_left, front_placed}
use Rattle.line.proofs.Moving.{length_part}
use Rattle.line.proofs.Reach.{reach_within}
use Rattle.line.proofs.Taking.{at_item, receive_lone}

-- the same promise where the same is received
pub decides_same : {d : Decision} {held other new exit : List ℕ} → receive held new ≡ receive other new → Decides d other new exit
    → Decides d held new exit
decides_same same p = record { gives = p.gives ∙ sym same; within = p.within }

-- then it goes
lone : (held new : List ℕ) → length held ≡ 1 → 0 < length new → eqb (get_or new 0 0) syn2 ≡ false → receive held new ≡ receive [] new
unfolding stands
lone [] new one some wrong = absurd (omega arith)
lone (x ∷ y ∷ xs) new one some wrong = absurd (omega arith)
lone (x ∷ []) [] one some wrong = absurd (omega arith)
lone (x ∷ []) (y ∷ ys) one some wrong = receive_lone x y ys (rw (wrong, and-false (eqb x 170)))

pub broken : (kept : ℕ) (held new : List ℕ) → length held ≡ kept → breaks kept new ≡ true → receive held new ≡ receive [] new
broken kept held new size broke =
    let a = both (eqb kept 1) (ltb 0 (length new) && not (eqb (get_or new 0 0) syn2)) broke in
    let b = both (ltb 0 (length new)) (not (eqb (get_or new 0 0) syn2)) a.1 in
    lone held new (omega (arith, eqb-true kept 1 a.0)) (ltb-true 0 (length new) b.0) (not-true _ b.1)

-- otherwise SYN stands, or may
unbroken : (kept n : ℕ) (b : Bool) → (eqb kept 1 && (ltb 0 n && not b)) ≡ false → kept ≡ 1 → 0 < n → b ≡ true
unbroken kept n true wrong one some = refl
unbroken kept n false wrong one some = absurd (true≢false (sym (rw (eq-eqb kept 1 one, lt-ltb 0 n some)) ∙ wrong))

keeps_at : (held ys : List ℕ) → stands held ≡ true → (length held ≡ 1 → 0 < length ys → get_or ys 0 0 ≡ syn2) → dropped (held ++ ys)
    ≡ 0
unfolding stands
keeps_at [] ys here next = absurd (true≢false (sym here))
keeps_at (x ∷ []) [] here next = dropped_here (x ∷ []) here
keeps_at (x ∷ []) (y ∷ ys) here next = dropped_here (x ∷ y ∷ ys) (rw (here, eq-eqb y syn2 (next refl (omega arith))))
keeps_at (x ∷ y ∷ xs) ys here next = dropped_here (x ∷ y ∷ (xs ++ ys)) here

short_scan : (xs : List ℕ) → dropped xs ≡ 0 → length xs < header_length → scan xs ≡ undecided 0
unfolding scan
short_scan xs front short = rw front (rule_1 0 xs short)

-- an item of a header's eight bytes is no message, and its SYN is removed
header_by : (n : ℕ) (xs : List ℕ) {i : _} {d r : ℕ} (s : Scan) → Applied n xs s → s ≡ decided i d r → length xs ≤ header_length → r
    ≡ 2
header_by n xs s (by_1 short e) h few = let z : ◌≡◌ {A = ℕ} 0 1 = cc in absurd (omega arith)
header_by n xs s (by_2 long bad e) h few = cc
header_by n xs s (by_3 long sound bad e) h few = cc
header_by n xs s (by_4 long sound fine short e) h few = let z : ◌≡◌ {A = ℕ} 0 1 = cc in absurd (omega arith)
header_by n xs s (by_5 long sound fine whole bad e) h few = absurd (omega arith)
header_by n xs s (by_6 long sound fine whole good e) h few = absurd (omega arith)

header_removes : (xs : List ℕ) {i : _} {d r : ℕ} → scan xs ≡ decided i d r → length xs ≡ header_length → r ≡ 2
unfolding scan
header_removes xs h size =
    header_by (dropped xs) (drop (dropped xs) xs) (scan xs) (applied (dropped xs) (drop (dropped xs) xs)) h
    (rw (length-drop (dropped xs) xs) (omega arith))

no_payload : (i : Item) (xs : List ℕ) (n r : ℕ) → scan xs ≡ decided (item_of i) n r → length xs ≡ header_length
    → (place : Place) (array new : List ℕ) → part_of (Some i) place array new ≡ payload_of xs
unfolding payload_of
no_payload DamagedHeader xs n r h size place array new = rw h
no_payload Forbidden xs n r h size place array new = rw h
no_payload DamagedPayload xs n r h size place array new = rw h
no_payload (Message t q len) xs n r h size place array new =
    absurd (omega (arith, (message_at xs h).whole, length-drop (dropped xs) xs))

module _ (p : Part) (array new : List ℕ) (within : p.from + p.count ≤ length array) (some : 0 < p.count)
    (none : scan (bytes_of p array) ≡ undecided 0) where
  abbrev kept : ℕ
  kept = p.count

  abbrev held : List ℕ
  held = bytes_of p array

  size : length held ≡ kept
  size = length_part p.from p.count array within

  at_front : dropped held ≡ 0
  at_front = sym (undecided_left held none).0

  here : stands held ≡ true
  here = rw at_front at (stands_left held (rw at_front (omega (arith, size))))

  keeps : breaks kept new ≡ false → (j : ℕ) → dropped (held ++ take j new) ≡ 0
  keeps wrong j = keeps_at held (take j new) here (λ one more.
      let n : (0 < j) × (0 < length new) = omega (arith, rw (length-take j new) at more) in
      get_or-take j new 0 0 n.0 ∙ eqb-true (get_or new 0 0) syn2
      (unbroken kept (length new) (eqb (get_or new 0 0) syn2) wrong (sym size ∙ one) n.1))

  -- too few for a header
  pub start_waits : breaks kept new ≡ false → kept + length new < header_length → scan (held ++ new) ≡ undecided 0
  start_waits wrong short =
      let front : dropped (held ++ new) ≡ 0 = rw (take-length new) at (keeps wrong (length new)) in
      short_scan (held ++ new) front (rw (length-append held new, size) short)

  -- enough for a header
  module _ (missing : ℕ) (sum : kept + missing ≡ header_length) (enough : missing ≤ length new) where
    abbrev pub whole : List ℕ
    whole = held ++ take missing new

    pub size_whole : length whole ≡ header_length
    size_whole = length-append held (take missing new) ∙ rw (length-take-le missing new enough, size) sum

    pub header_waits : breaks kept new ≡ false → {n : ℕ} → scan whole ≡ undecided n → scan whole ≡ undecided 0
    header_waits wrong h = h ∙ ap undecided ((undecided_left whole h).0 ∙ keeps wrong missing)

    pub gives_header : (d : Decision) (i : Item) (n r : ℕ) (exit : List ℕ) → breaks kept new ≡ false
        → scan whole ≡ decided (item_of i) n r → length array ≡ held_max → exit ≡ placed 0 (drop 2 whole) array
        → (d.answer ≡ Some i) × (d.taken ≡ missing) × (d.start ≡ 0) × (d.count ≡ 6) → Decides d held new exit
    gives_header d i n r exit wrong h full stands said =
        let two : r ≡ 2 = header_removes whole h size_whole in
        let w = reach_within whole h in
        let front : n ≡ 0 = w.0 ∙ keeps wrong missing in
        let six : length (drop 2 whole) ≡ 6 = rw (length-drop 2 whole, size_whole) in
        let kept : take 6 exit ≡ drop 2 whole = rw stands (rw six at (front_placed (drop 2 whole) array (omega (arith, six)))) in
        let got = at_item held new missing {i = item_of i} {d = n} {r = r} enough h (omega (arith, w, size, size_whole)) in
        record {
          gives = rw
              (said.0, said.1, said.2, said.3, got, h, kept, no_payload i whole n r h size_whole d.payload exit new, front, two);
          within = omega (arith, said.2, said.3);
        }
