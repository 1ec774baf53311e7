-- How many bytes decide an item: those of its header, or of the whole message. Fewer decide nothing, and no more are needed.
use Prim.Native.Nat.{ℕ, ◌+◌, ◌≤◌, ◌<◌}
use mathlib.Core.Bool.{Bool, true, false}
use mathlib.Core.List.{List, ◌++◌}
use mathlib.Core.Path.{◌≡◌, refl, sym, ap, ◌∙◌}
use native.Mathlib.Omega.{arith}
use lib.Dec.{leb}
use lib.ListN.{length, drop, length-drop}
use lib.Seq.{drop-append-le}
use borrow.Author.Tests.{leb-true, leb-false}
use Rattle.message.specs.Bytes.{header_length, total}
use Rattle.message.specs.Items.{Item, damaged_header, forbidden, damaged_payload, message, Scan, undecided, decided, dropped, type_in, len_in, seq_in, rules, scan}
use Rattle.message.proofs.Dropping.{dropped_within}
use Rattle.message.proofs.Found.{found_at}
use Rattle.message.proofs.Headers.{allowed_short}
use Rattle.message.proofs.More.{len_more, type_more, seq_more, sound_more, allowed_more, good_more, dropped_more, scan_more}
use Rattle.message.proofs.Rules.{Applied, by_1, by_2, by_3, by_4, by_5, by_6, applied, rule_2, rule_3, rule_5, rule_6}
use Rattle.line.specs.Receiving.{held_max, decides}
use Rattle.line.proofs.Joined.{dropped_joined}

-- of what is left after dropping
abbrev pub reach : Item → List ℕ → ℕ
reach damaged_header xs = header_length
reach forbidden xs = header_length
reach damaged_payload xs = total (len_in xs)
reach (message t q len) xs = total len

-- it is no less than a header's bytes and than those removed with the item, and no more than the longest message
pub record Reached (i : Item) (r : ℕ) (xs : List ℕ) : Type 0 where
  pub header : header_length ≤ reach i xs
  pub removed : r ≤ reach i xs
  pub longest : reach i xs ≤ held_max + 1
  pub within : reach i xs ≤ length xs

reach_by : (n : ℕ) (xs : List ℕ) {i : Item} {d r : ℕ} (s : Scan) → Applied n xs s → s ≡ decided i d r → Reached i r xs
reach_by n xs s (by_1 short e) h = let z : ◌≡◌ {A = ℕ} 0 1 = cc in absurd (omega arith)
reach_by n xs {i} {d} {r} s (by_2 long bad e) h =
    let same : i ≡ damaged_header = cc in
    let two : r ≡ 2 = cc in
    rw same (record { header = omega arith; removed = omega arith; longest = omega arith; within = omega arith })
reach_by n xs {i} {d} {r} s (by_3 long sound bad e) h =
    let same : i ≡ forbidden = cc in
    let two : r ≡ 2 = cc in
    rw same (record { header = omega arith; removed = omega arith; longest = omega arith; within = omega arith })
reach_by n xs s (by_4 long sound fine short e) h = let z : ◌≡◌ {A = ℕ} 0 1 = cc in absurd (omega arith)
reach_by n xs {i} {d} {r} s (by_5 long sound fine whole bad e) h =
    let same : i ≡ damaged_payload = cc in
    let two : r ≡ 2 = cc in
    let most = allowed_short (type_in xs) (len_in xs) fine in
    rw same (record { header = omega arith; removed = omega arith; longest = omega arith; within = omega arith })
reach_by n xs {i} {d} {r} s (by_6 long sound fine whole good e) h =
    let same : i ≡ message (type_in xs) (seq_in xs) (len_in xs) = cc in
    let all : r ≡ total (len_in xs) = cc in
    let most = allowed_short (type_in xs) (len_in xs) fine in
    rw same (record { header = omega arith; removed = omega arith; longest = omega arith; within = omega arith })

pub reached : (xs : List ℕ) {i : Item} {d r : ℕ} → scan xs ≡ decided i d r → Reached i r (drop d xs)
unfolding scan
reached xs h =
    rw (found_at xs h).place
    (reach_by (dropped xs) (drop (dropped xs) xs) (scan xs) (applied (dropped xs) (drop (dropped xs) xs)) h)

-- the bytes hold it
pub reach_within : (xs : List ℕ) {i : Item} {d r : ℕ} → scan xs ≡ decided i d r
    → (d ≡ dropped xs) × (header_length ≤ reach i (drop d xs)) × (d + reach i (drop d xs) ≤ length xs)
reach_within xs {i} {d} h =
    let place = (found_at xs h).place in
    let b = reached xs h in
    let inside : d ≤ length xs = omega (arith, dropped_within xs) in
    (place, b.header, omega (arith, b.within, length-drop d xs))

-- the first bytes ps of ps ++ ws: where they hold it, they decide the same
module _ (n : ℕ) (ps ws : List ℕ) where
  rules_less : {i : Item} {d r : ℕ} (s : Scan) → Applied n (ps ++ ws) s → s ≡ decided i d r → reach i (ps ++ ws) ≤ length ps
      → rules n ps ≡ s
  rules_less s (by_1 short e) h enough = let z : ◌≡◌ {A = ℕ} 0 1 = cc in absurd (omega arith)
  rules_less {i} s (by_2 long bad e) h enough =
      let same : i ≡ damaged_header = cc in
      let hold : header_length ≤ length ps = rw same at enough in
      rw e (rule_2 n ps hold (sym (sound_more ps ws hold) ∙ bad))
  rules_less {i} s (by_3 long sound bad e) h enough =
      let same : i ≡ forbidden = cc in
      let hold : header_length ≤ length ps = rw same at enough in
      rw e (rule_3 n ps hold (sym (sound_more ps ws hold) ∙ sound) (sym (allowed_more ps ws hold) ∙ bad))
  rules_less s (by_4 long sound fine short e) h enough = let z : ◌≡◌ {A = ℕ} 0 1 = cc in absurd (omega arith)
  rules_less {i} s (by_5 long sound fine whole bad e) h enough =
      let same : i ≡ damaged_payload = cc in
      let all : total (len_in (ps ++ ws)) ≤ length ps = rw same at enough in
      let hold : header_length ≤ length ps = omega arith in
      let count = len_more ps ws hold in
      let whole : total (len_in ps) ≤ length ps = omega arith in
      rw e
      (rule_5 n ps hold (sym (sound_more ps ws hold) ∙ sound) (sym (allowed_more ps ws hold) ∙ fine) whole
      (sym (good_more ps ws hold whole) ∙ bad))
  rules_less {i} s (by_6 long sound fine whole good e) h enough =
      let same : i ≡ message (type_in (ps ++ ws)) (seq_in (ps ++ ws)) (len_in (ps ++ ws)) = cc in
      let all : total (len_in (ps ++ ws)) ≤ length ps = rw same at enough in
      let hold : header_length ≤ length ps = omega arith in
      let count = len_more ps ws hold in
      let whole : total (len_in ps) ≤ length ps = omega arith in
      rw (e, type_more ps ws hold, seq_more ps ws hold, count)
      (rule_6 n ps hold (sym (sound_more ps ws hold) ∙ sound) (sym (allowed_more ps ws hold) ∙ fine) whole
      (sym (good_more ps ws hold whole) ∙ good))

-- dropping of the first bytes stops at the same place, where two of them are left
dropped_first : (b : Bool) (ps ws : List ℕ) → leb 2 (length (drop (dropped ps) ps)) ≡ b → dropped (ps ++ ws) + 2 ≤ length ps
    → dropped ps ≡ dropped (ps ++ ws)
dropped_first true ps ws h two = sym (dropped_more ps ws (leb-true 2 (length (drop (dropped ps) ps)) h))
dropped_first false ps ws h two =
    absurd (omega
    (arith, leb-false 2 (length (drop (dropped ps) ps)) h, dropped_joined ps ws, length-drop (dropped ps) ps, dropped_within ps))

pub dropped_less : (ps ws : List ℕ) → dropped (ps ++ ws) + 2 ≤ length ps → dropped ps ≡ dropped (ps ++ ws)
dropped_less ps ws two = dropped_first (leb 2 (length (drop (dropped ps) ps))) ps ws refl two

at_rules : (n : ℕ) (ps ws : List ℕ) {i : Item} {d r : ℕ} → rules n (ps ++ ws) ≡ decided i d r → reach i (ps ++ ws) ≤ length ps
    → rules n ps ≡ decided i d r
at_rules n ps ws h enough = rules_less n ps ws (rules n (ps ++ ws)) (applied n (ps ++ ws)) h enough ∙ h

reach_more : (i : Item) (xs ys : List ℕ) → header_length ≤ length xs → reach i (xs ++ ys) ≡ reach i xs
reach_more damaged_header xs ys long = refl
reach_more forbidden xs ys long = refl
reach_more damaged_payload xs ys long = ap total (len_more xs ys long)
reach_more (message t q len) xs ys long = refl

-- enough bytes decide the item
pub scan_less : (ps ws : List ℕ) {i : Item} {d r : ℕ} → scan (ps ++ ws) ≡ decided i d r
    → d + reach i (drop d (ps ++ ws)) ≤ length ps → scan ps ≡ decided i d r
unfolding scan
scan_less ps ws {i} {d} h enough =
    let w = reach_within (ps ++ ws) h in
    let same : dropped ps ≡ dropped (ps ++ ws) = dropped_less ps ws (omega arith) in
    let part : drop (dropped (ps ++ ws)) (ps ++ ws) ≡ drop (dropped ps) ps ++ ws =
    rw (← same) (drop-append-le (dropped ps) ps ws (dropped_within ps)) in
    let here : reach i (drop (dropped ps) ps ++ ws) ≤ length (drop (dropped ps) ps) =
    omega (arith, length-drop (dropped ps) ps, rw (w.0, part) at enough) in
    at_rules (dropped ps) (drop (dropped ps) ps) ws (rw (part, ← same) at h) here

-- fewer decide nothing
fewer : (ps ws : List ℕ) {i : Item} {d r : ℕ} (s : Scan) → scan ps ≡ s → scan (ps ++ ws) ≡ decided i d r
    → length ps < d + reach i (drop d (ps ++ ws)) → decides s ≡ false
fewer ps ws (undecided n) here h few = refl
fewer ps ws {i} {d} {r} (decided j n m) here h few =
    let there : ◌≡◌ {A = Scan} (decided i d r) (decided j n m) = sym h ∙ scan_more ps ws here in
    let place : d ≡ n = cc in
    let same : i ≡ j = cc in
    let w = reach_within ps here in
    let long : header_length ≤ length (drop n ps) = rw (length-drop n ps) (omega arith) in
    absurd (omega (arith, reach_more j (drop n ps) ws long, rw (same, place, drop-append-le n ps ws (omega arith)) at few))

pub scan_fewer : (ps ws : List ℕ) {i : Item} {d r : ℕ} → scan (ps ++ ws) ≡ decided i d r
    → length ps < d + reach i (drop d (ps ++ ws)) → decides (scan ps) ≡ false
scan_fewer ps ws h few = fewer ps ws (scan ps) refl h few
