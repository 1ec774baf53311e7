-- From what the six rules say and where the bytes stand to what `decide` promises.
use Prim.Native.Nat.{ℕ, zero, suc, ◌+◌, ◌-◌, ◌≤◌}
use mathlib.Core.List.{List, [], ◌∷◌, ◌++◌}
use mathlib.Core.Path.{◌≡◌, refl, sym, ap, ◌∙◌}
use native.Mathlib.Nat.{zero-add}
use native.Mathlib.Omega.{arith}
use lib.ListN.{length, take, drop, length-take, length-drop}
use lib.Seq.{take-take, take_all}
use Rattle.std.specs.Prelude.{None, Some}
use Rattle.message.specs.Bytes.{header_length}
use Rattle.message.specs.Items.{Scan, undecided, decided, dropped, len_in, type_in, scan, payload_of}
use Rattle.message.specs.Promises.{item_of, scan_of}
use Rattle.message.specs.Writing.{placed}
use Rattle.message.specs.declared.Item.{Item}
use Rattle.message.specs.declared.Reading.{Reading}
use Rattle.message.specs.declared.Item.TheVariants.{DamagedHeader, Forbidden, DamagedPayload, Message}
use Rattle.message.proofs.Buffer.{through_placed}
use Rattle.message.proofs.Dropping.{dropped_within}
use Rattle.message.proofs.Found.{scan_within, message_at}
use Rattle.message.proofs.Headers.{allowed_short}
use Rattle.message.proofs.Rules.{Applied, by_1, by_2, by_3, by_4, by_5, by_6, applied}
use Rattle.line.specs.Promises.{Decides, part_of}
use Rattle.line.specs.Receiving.{held_max, decides, taken, received_from, receive}
use Rattle.line.specs.declared.Place.TheVariants.{Held, New}
use Rattle.line.specs.declared.Decision.{Decision}
use Rattle.std.proofs.lemmas.List.{drop-take}
use Rattle.line.proofs.Reach.{reached, reach_within}
use Rattle.line.proofs.Taking.{at_more, at_new, taken_new}

-- where nothing is decided, what is left after dropping is within the limit
bounded_by : (n : ℕ) (xs : List ℕ) {e : ℕ} (s : Scan) → Applied n xs s → s ≡ undecided e → (e ≡ n) × (length xs ≤ held_max)
bounded_by n xs s (by_1 short e) h = (cc, omega arith)
bounded_by n xs s (by_2 long bad e) h = let z : ◌≡◌ {A = ℕ} 0 1 = cc in absurd (omega arith)
bounded_by n xs s (by_3 long sound bad e) h = let z : ◌≡◌ {A = ℕ} 0 1 = cc in absurd (omega arith)
bounded_by n xs s (by_4 long sound fine short e) h = (cc, omega (arith, allowed_short (type_in xs) (len_in xs) fine))
bounded_by n xs s (by_5 long sound fine whole bad e) h = let z : ◌≡◌ {A = ℕ} 0 1 = cc in absurd (omega arith)
bounded_by n xs s (by_6 long sound fine whole good e) h = let z : ◌≡◌ {A = ℕ} 0 1 = cc in absurd (omega arith)

pub undecided_left : (xs : List ℕ) {e : ℕ} → scan xs ≡ undecided e → (e ≡ dropped xs) × (length (drop e xs) ≤ held_max)
unfolding scan
undecided_left xs h =
    let b = bounded_by (dropped xs) (drop (dropped xs) xs) (scan xs) (applied (dropped xs) (drop (dropped xs) xs)) h in
    rw b.0 (refl, b.1)

-- so where no item is read, no more is dropped than there is
pub dropped_in : (r : Reading) (xs : List ℕ) → scan_of r ≡ scan xs → r.first ≡ None → r.dropped ≤ length xs
dropped_in r xs told none = let h = sym (rw none at told) in omega (arith, undecided_left xs h, dropped_within xs)

-- no item: what is left stands at the front
pub gives_more : (d : Decision) (held new array : List ℕ) {e : ℕ} → scan (held ++ new) ≡ undecided e
    → (d.answer ≡ None) × (d.taken ≡ length new) × (d.start ≡ 0) × (d.count ≡ length (drop e (held ++ new)))
    → take (length (drop e (held ++ new))) array ≡ drop e (held ++ new) → Decides d held new array
unfolding payload_of
gives_more d held new array {e} none said stands = record {
  gives =
      rw (said.0, said.1, said.2, said.3, at_more held new (ap decides none), none, stands);
  within = omega (arith, said.2, said.3, (undecided_left (held ++ new) none).1);
}

-- a part of the first bytes of a list
pub part : (p n c : ℕ) (l : List ℕ) → p + n ≤ c → take n (drop p (take c l)) ≡ take n (drop p l)
part zero n c l within = take-take n c l (omega arith)
part (suc p) n zero l within = absurd (omega arith)
part (suc p) n (suc c) [] within = refl
part (suc p) n (suc c) (x ∷ l) within = part p n c l (omega arith)

-- an item of bytes that stand at the front
module _ (array xs : List ℕ) (stands : take (length xs) array ≡ xs) where
  payload_in : (i : Item) (n r : ℕ) (new : List ℕ) → scan xs ≡ decided (item_of i) n r
      → part_of (Some i) (Held (n + header_length)) array new ≡ payload_of xs
  unfolding payload_of
  payload_in DamagedHeader n r new h = rw h
  payload_in Forbidden n r new h = rw h
  payload_in DamagedPayload n r new h = rw h
  payload_in (Message t q len) n r new h =
      let m = message_at xs h in
      rw (h, ← stands)
      (sym (part (n + header_length) len (length xs) array (omega (arith, length-drop (dropped xs) xs, dropped_within xs))))

  left_in : (n k : ℕ) → n + k ≡ length xs → take k (drop n array) ≡ drop n xs
  left_in n k sum =
      sym (part n k (length xs) array (omega arith))
      ∙ ap (λ (l : List ℕ). take k (drop n l)) stands
      ∙ take_all k (drop n xs) (rw (length-drop n xs) (omega arith))

  pub gives_item : (d : Decision) (held new : List ℕ) (k : ℕ) (i : Item) (n r : ℕ) → receive held new ≡ received_from xs k
      → scan xs ≡ decided (item_of i) n r → length xs ≤ held_max
      → (d.answer ≡ Some i) × (d.taken ≡ k) × (d.start ≡ n + r) × (d.start + d.count ≡ length xs)
      × (d.payload ≡ Held (n + header_length)) → Decides d held new array
  gives_item d held new k i n r got h within said = record {
    gives =
        rw (
          said.0,
          said.1,
          said.4,
          got,
          left_in d.start d.count said.3,
          said.2,
          payload_in i n r new h,
          h,
        );
    within = omega (arith, said.3);
  }

-- bytes put at the front stand there
pub front_placed : (m l : List ℕ) → length m ≤ length l → take (length m) (placed 0 m l) ≡ m
front_placed m l fits = rw (zero-add (length m)) at (through_placed 0 m l (omega arith))

payload_new : (i : Item) (n r k : ℕ) (new array : List ℕ) → scan (take k new) ≡ decided (item_of i) n r
    → part_of (Some i) (New (n + header_length)) array new ≡ payload_of (take k new)
unfolding payload_of
payload_new DamagedHeader n r k new array h = rw h
payload_new Forbidden n r k new array h = rw h
payload_new DamagedPayload n r k new array h = rw h
payload_new (Message t q len) n r k new array h =
    let m = message_at (take k new) h in
    let size : length (take k new) ≤ k = rw (length-take k new) (omega arith) in
    rw h (sym
    (part (n + header_length) len k new
    (omega (arith, length-drop (dropped (take k new)) (take k new), dropped_within (take k new)))))

-- an item of new bytes alone: what follows it stands at the front
module _ (i : Item) (n r k : ℕ) (new : List ℕ) (h : scan new ≡ decided (item_of i) n r) (last : k ≡ taken [] new) where
  abbrev pub follows : List ℕ
  follows = take (k - (n + r)) (drop (n + r) new)

  -- where the bytes that decide it end
  pub ends : (k ≡ taken [] new) × (n + r ≤ k) × (n + header_length ≤ k) × (k ≤ length new) × (k ≤ n + r + held_max)
  ends =
      let b = reached new h in
      let t = taken_new new h in (
        last,
        omega (arith, b.removed),
        omega (arith, b.header),
        omega (arith, reach_within new h),
        omega (arith, b.longest, scan_within new h),
      )

  pub gives_new : (d : Decision) (array : List ℕ)
      → (d.answer ≡ Some i) × (d.taken ≡ k) × (d.start ≡ 0) × (d.count ≡ length follows) × (d.payload ≡ New (n + header_length))
      → take (length follows) array ≡ follows → Decides d [] new array
  gives_new d array said stands =
      let e = ends in
      let t = at_new new k h (last ∙ taken_new new h) in
      let sum : n + r + (k - (n + r)) ≡ k = omega (arith, e) in
      let rest : drop (n + r) (take k new) ≡ follows = rw sum at (drop-take (n + r) (k - (n + r)) new) in
      let size : length follows ≤ k - (n + r) = rw (length-take (k - (n + r)) (drop (n + r) new)) (omega arith) in
      record {
        gives =
            rw (said.0, said.1, said.2, said.3, said.4, t.0, stands, payload_new i n r k new array t.1, t.1, rest);
        within = omega (arith, said.2, said.3, e);
      }
