-- The round trips for C, from the promise of `fizrahum_write` and the numbers of `fizrahum_read`: by those of crate `message`.
use Prim.Native.Nat.{ℕ, ◌+◌, ◌≤◌, ◌<◌}
use mathlib.Core.List.{List}
use mathlib.Core.Logic.{⊎_elim}
use mathlib.Core.Path.{◌≡◌, refl, sym, ap, ◌∙◌}
use native.Mathlib.Omega.{arith}
use lib.ListN.{length, take, drop, get_or}
use Rattle.message.specs.Bytes.{nak}
use Rattle.message.specs.Items.{scan, payload_of}
use Rattle.message.specs.Promises.{Wrote}
use Rattle.message.specs.Writing.{Answer, accepted, refused, written, placed}
use Rattle.std.specs.Prelude.{Ok}
use Rattle.message.proofs.Accepted.{passed, refused_with}
use Rattle.message.proofs.Laws as messages
use Rattle.message.proofs.RoundTrips.{read_is_accepted}
use Rattle.message.proofs.WrittenRead.{written_read}
use Rattle.c_api.specs.Numbers.{number_of, WroteNumber, numbers, numbers_of}
use Rattle.c_api.proofs.Told.{message_told, payload_named}

module _ (s place t q len : ℕ) {n : ℕ} where
  -- a number from 10 on is a length
  as_length : (a : Answer) → written s place t q len ≡ a → n ≡ number_of a → 10 ≤ n → written s place t q len ≡ accepted n
  as_length (accepted k) said same ten = rw same said
  as_length (refused k) said same ten =
      let below : k < 10 =
      ⊎_elim (λ e. omega (arith, e)) (λ e. omega (arith, e)) (refused_with s place t q len (sym said)) in absurd (omega arith)

  -- one below 10 is a refusal
  as_refusal : (a : Answer) → written s place t q len ≡ a → n ≡ number_of a → n < 10 → written s place t q len ≡ refused n
  as_refusal (accepted k) said same below = let fits = passed s place t q len (sym said) in absurd (omega arith)
  as_refusal (refused k) said same below = rw same said

module _ {n place t q : ℕ} {p l exit : List ℕ} (wrote : WroteNumber n place t q p l exit) where
  abbrev answer : Answer
  answer = written (length l) place t q (length p)

  -- by the promise of `write`, whose answer is the length
  pub write_then_read : 10 ≤ n
      → (numbers_of (scan (drop place exit)) ≡ numbers 6 t q 8 (length p) 0 n) × (take (length p) (drop 8 (drop place exit)) ≡ p)
  write_then_read ten =
      let says = as_length (length l) place t q (length p) answer refl wrote.answers ten in
      let as-wrote : Wrote (Ok n) place t q (length p) p l exit =
      record { answers = sym says; leaves = rw says at wrote.leaves } in
      let read = messages.write_then_read as-wrote in
      let told : numbers_of (scan (drop place exit)) ≡ numbers 6 t q 8 (length p) 0 n = ap numbers_of read.0 in
      (told, payload_named (drop place exit) told ∙ read.1)

  pub nak_refused : t ≡ nak → (q ≡ 0 → ⊥) → (n ≡ 7) × (exit ≡ l)
  nak_refused is-nak other =
      let says : answer ≡ refused 7 = rw is-nak (messages.nak_refused (length l) place q (length p) other) in
      (wrote.answers ∙ ap number_of says, rw says at wrote.leaves)

  pub refusal_leaves : n < 10 → exit ≡ l
  refusal_leaves below =
      let says = as_refusal (length l) place t q (length p) answer refl wrote.answers below in rw says at wrote.leaves

-- of a message that was read, the payload is the part that its numbers name
pub read_then_write : (xs : List ℕ) {t q p len d r n place : ℕ} {l exit : List ℕ} → ((i : ℕ) → get_or xs i 0 < 256)
    → numbers_of (scan xs) ≡ numbers 6 t q p len d r → (t ≡ nak → q ≡ 0) → place + r ≤ length l
    → WroteNumber n place t q (take len (drop p xs)) l exit
    → (n ≡ r) × (exit ≡ placed place (take r (drop d xs)) l)
read_then_write xs {t} {q} {p} {len} {d} {r} {n} {place} {l} small told zero room wrote =
    let read = message_told (scan xs) told in
    let part : take len (drop p xs) ≡ payload_of xs = payload_named xs told in
    let says : written (length l) place t q (length (take len (drop p xs))) ≡ accepted r =
    rw part (read_is_accepted xs (length l) place read zero room) in
    (wrote.answers ∙ ap number_of says, rw says at wrote.leaves ∙ rw (part, written_read xs small read))
