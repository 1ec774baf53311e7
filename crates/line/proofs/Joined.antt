-- Bytes that are dropped play no part: with more bytes behind them, the rest says the same.
use Prim.Native.Nat.{ℕ, suc, ◌+◌}
use mathlib.Core.Bool.{Bool, true, false, cond as if}
use mathlib.Core.List.{List, [], ◌∷◌, ◌++◌}
use mathlib.Core.Path.{◌≡◌, refl, sym, ap, ◌∙◌}
use native.Mathlib.Omega.{arith}
use lib.ListN.{drop}
use lib.Seq.{drop-drop, drop-append-le}
use Rattle.message.specs.Bytes.{header_length}
use Rattle.message.specs.Items.{damaged_header, forbidden, damaged_payload, message, Scan, undecided, decided, stands, dropped, rules, scan, part_with, payload_of}
use Rattle.message.proofs.Dropping.{dropped_within}
use Rattle.message.proofs.Rules.{Applied, by_1, by_2, by_3, by_4, by_5, by_6, applied, rule_1, rule_2, rule_3, rule_4, rule_5, rule_6}
use Rattle.line.specs.Receiving.{decides, answered, left, received_from}

-- what is said after n bytes more were dropped
abbrev pub later : ℕ → Scan → Scan
later n (undecided d) = undecided (n + d)
later n (decided i d r) = decided i (n + d) r

rules_by : (n m : ℕ) (xs : List ℕ) (s : Scan) → Applied m xs s → rules (n + m) xs ≡ later n s
rules_by n m xs s (by_1 short e) = rw e (rule_1 (n + m) xs short)
rules_by n m xs s (by_2 long bad e) = rw e (rule_2 (n + m) xs long bad)
rules_by n m xs s (by_3 long sound bad e) = rw e (rule_3 (n + m) xs long sound bad)
rules_by n m xs s (by_4 long sound fine short e) = rw e (rule_4 (n + m) xs long sound fine short)
rules_by n m xs s (by_5 long sound fine whole bad e) = rw e (rule_5 (n + m) xs long sound fine whole bad)
rules_by n m xs s (by_6 long sound fine whole good e) = rw e (rule_6 (n + m) xs long sound fine whole good)

rules_later : (n m : ℕ) (xs : List ℕ) → rules (n + m) xs ≡ later n (rules m xs)
rules_later n m xs = rules_by n m xs (rules m xs) (applied m xs)

-- where SYN does not stand and cannot, it does not with more bytes
stands_not : (x : ℕ) (xs ys : List ℕ) → stands (x ∷ xs) ≡ false → stands (x ∷ (xs ++ ys)) ≡ false
unfolding stands
stands_not x [] [] h = h
stands_not x [] (y ∷ ys) h = rw h
stands_not x (z ∷ xs) ys h = h

-- what is dropped of the whole is what is dropped of the first bytes, then of their rest and the others
dropped_step : (b : Bool) (x : ℕ) (xs ys : List ℕ) → stands (x ∷ xs) ≡ b
    → dropped (xs ++ ys) ≡ dropped xs + dropped (drop (dropped xs) xs ++ ys)
    → dropped (x ∷ (xs ++ ys)) ≡ if b 0 (suc (dropped xs)) + dropped (drop (if b 0 (suc (dropped xs))) (x ∷ xs) ++ ys)
unfolding dropped
dropped_step true x xs ys here next = omega arith
dropped_step false x xs ys here next = rw (stands_not x xs ys here) (omega arith)

pub dropped_joined : (xs ys : List ℕ) → dropped (xs ++ ys) ≡ dropped xs + dropped (drop (dropped xs) xs ++ ys)
unfolding dropped
dropped_joined [] ys = omega arith
dropped_joined (x ∷ xs) ys = dropped_step (stands (x ∷ xs)) x xs ys refl (dropped_joined xs ys)

-- the bytes after those that are dropped, with others behind them
module _ (xs ys : List ℕ) where
  abbrev rest : List ℕ
  rest = drop (dropped xs) xs ++ ys

  drop_joined : (n : ℕ) → drop (dropped xs + n) (xs ++ ys) ≡ drop n rest
  drop_joined n = sym (drop-drop n (dropped xs) (xs ++ ys)) ∙ ap (drop n) (drop-append-le (dropped xs) xs ys (dropped_within xs))

  scan_by : (e : ℕ) → e ≡ dropped rest → dropped (xs ++ ys) ≡ dropped xs + e → scan (xs ++ ys) ≡ later (dropped xs) (scan rest)
  unfolding scan
  scan_by e h sum = rw (sum, drop_joined e, rules_later (dropped xs) e (drop e rest), h)

  pub scan_joined : scan (xs ++ ys) ≡ later (dropped xs) (scan rest)
  scan_joined = scan_by (dropped rest) refl (dropped_joined xs ys)

-- so a call's answer, payload and held bytes are the same
module _ (d : ℕ) (xs ys : List ℕ) (same : (n : ℕ) → drop (d + n) xs ≡ drop n ys) where
  answered_later : (s : Scan) → answered (later d s) ≡ answered s
  answered_later (undecided n) = refl
  answered_later (decided i n r) = refl

  left_later : (s : Scan) → left (later d s) xs ≡ left s ys
  left_later (undecided n) = same n
  left_later (decided i n r) = let sum : d + n + r ≡ d + (n + r) = omega arith in rw sum (same (n + r))

  part_later : (s : Scan) → part_with (later d s) xs ≡ part_with s ys
  part_later (undecided n) = refl
  part_later (decided damaged_header n r) = refl
  part_later (decided forbidden n r) = refl
  part_later (decided damaged_payload n r) = refl
  part_later (decided (message t q len) n r) =
      let sum : d + n + header_length ≡ d + (n + header_length) = omega arith in rw (sum, same (n + header_length))

  received_later : scan xs ≡ later d (scan ys) → (n : ℕ) → received_from xs n ≡ received_from ys n
  unfolding payload_of
  received_later h n = rw (h, answered_later (scan ys), left_later (scan ys), part_later (scan ys))

decides_later : (d : ℕ) (s : Scan) → decides (later d s) ≡ decides s
decides_later d (undecided n) = refl
decides_later d (decided i n r) = refl

pub decides_joined : (xs ys : List ℕ) → decides (scan (xs ++ ys)) ≡ decides (scan (drop (dropped xs) xs ++ ys))
decides_joined xs ys = ap decides (scan_joined xs ys) ∙ decides_later (dropped xs) (scan (drop (dropped xs) xs ++ ys))

pub received_joined : (xs ys : List ℕ) (n : ℕ) → received_from (xs ++ ys) n ≡ received_from (drop (dropped xs) xs ++ ys) n
received_joined xs ys n =
    received_later (dropped xs) (xs ++ ys) (drop (dropped xs) xs ++ ys) (drop_joined xs ys) (scan_joined xs ys) n

one : (n : ℕ) → 1 + n ≡ suc n
one n = omega arith

-- a byte that does not stand there goes
pub scan_behind : (x : ℕ) (ys : List ℕ) → stands (x ∷ ys) ≡ false → scan (x ∷ ys) ≡ later 1 (scan ys)
unfolding scan dropped
scan_behind x ys h = rw h (rw (one (dropped ys)) at (rules_later 1 (dropped ys) (drop (dropped ys) ys)))

pub decides_behind : (x : ℕ) (ys : List ℕ) → stands (x ∷ ys) ≡ false → decides (scan (x ∷ ys)) ≡ decides (scan ys)
decides_behind x ys h = ap decides (scan_behind x ys h) ∙ decides_later 1 (scan ys)

pub received_behind : (x : ℕ) (ys : List ℕ) (n : ℕ) → stands (x ∷ ys) ≡ false → received_from (x ∷ ys) n ≡ received_from ys n
received_behind x ys n h = received_later 1 (x ∷ ys) ys (λ k. rw (one k)) (scan_behind x ys h) n
