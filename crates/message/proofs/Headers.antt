-- Laws of headers: how long their parts are, and what a writable or an allowed one has.
use Prim.Native.Nat.{ℕ, ◌+◌, ◌/◌, ◌%◌, ◌^◌, ◌≤◌, ◌<◌}
use mathlib.Core.Bool.{Bool, true, false, true≢false, not, ◌&&◌, ◌||◌, and-false, cond as if}
use mathlib.Core.List.{List, [], ◌∷◌}
use mathlib.Core.Path.{◌≡◌, refl, sym, ap, ◌∙◌}
use native.Mathlib.Omega.{arith}
use lib.Dec.{eqb, leb}
use lib.ListN.{length, length-append}
use Rattle.std.specs.Int.{w16, to_le_bytes}
use borrow.Author.Tests.{eq-eqb, ne_eqb, eqb-true, leb-true}
use Rattle.checksum.specs.Checksum.{checksum_of}
use Rattle.message.specs.Bytes.{le16, fields, header, header_length, body, message, total, ack, nak, data_seq, data_nsq, max_len, allowed, writable}

pub length_le16 : (n : ℕ) → length (le16 n) ≡ 2
unfolding le16
length_le16 n = refl

-- std's bytes of a 16-bit number are those two
pub le16_bytes : (n : ℕ) → n < 2 ^ 16 → to_le_bytes w16 n ≡ le16 n
unfolding le16
le16_bytes n small =
    let high : n / 256 % 256 ≡ n / 256 = omega arith in
    ap (λ (b : ℕ). n % 256 ∷ b ∷ []) high

pub length_fields : (t n q : ℕ) → length (fields t n q) ≡ 4
unfolding fields le16
length_fields t n q = refl

pub length_header : (t n q : ℕ) → length (header t n q) ≡ header_length
unfolding header fields le16
length_header t n q = refl

pub length_body : (p : List ℕ) → length (body p) ≡ length p + 2
unfolding body le16
length_body p = length-append p (le16 (checksum_of p))

pub length_message : (t q : ℕ) (p : List ℕ) → length (message t q p) ≡ total (length p)
unfolding message
length_message t q p =
    length-append (header t (length p) q) (body p) ∙ simp (length_header, length_body) (omega arith)

-- both of two tests that passed together
pub both : (a b : Bool) → (a && b) ≡ true → (a ≡ true) × (b ≡ true)
both true true h = (refl, refl)
both true false h = (refl, h)
both false b h = (h, absurd (true≢false (sym h)))

-- a writable header is allowed
pub writable_allowed : (t n q : ℕ) → writable t n q ≡ true → allowed t n ≡ true
unfolding writable
writable_allowed t n q h = (both (allowed t n) (not (eqb t nak) || eqb q 0) h).0

short : (control frame : Bool) (n : ℕ) → if control (eqb n 0) (if frame (leb 1 n && leb n max_len) false) ≡ true → n ≤ max_len
short true f n h = omega (arith, eqb-true n 0 h)
short false true n h = leb-true n max_len (both (leb 1 n) (leb n max_len) h).1
short false false n h = absurd (true≢false (sym h))

-- an allowed header has a LEN within the limit
pub allowed_short : (t n : ℕ) → allowed t n ≡ true → n ≤ max_len
unfolding allowed
allowed_short t n h = short (eqb t ack || eqb t nak) (eqb t data_seq || eqb t data_nsq) n h

pub writable_short : (t n q : ℕ) → writable t n q ≡ true → n ≤ max_len
writable_short t n q h = allowed_short t n (writable_allowed t n q h)

-- an allowed header may be written, but for a NAK with another SEQ than 0
seq_0 : (t q : ℕ) (b : Bool) → eqb t nak ≡ b → (t ≡ nak → q ≡ 0) → (not b || eqb q 0) ≡ true
seq_0 t q true h zero = eq-eqb q 0 (zero (eqb-true t nak h))
seq_0 t q false h zero = refl

pub allowed_writable : (t n q : ℕ) → allowed t n ≡ true → (t ≡ nak → q ≡ 0) → writable t n q ≡ true
unfolding writable
allowed_writable t n q fine zero = rw (fine, seq_0 t q (eqb t nak) refl zero)

pub nak_not_writable : (n q : ℕ) → (q ≡ 0 → ⊥) → writable nak n q ≡ false
unfolding writable
nak_not_writable n q other = rw (ne_eqb q 0 other, and-false (allowed nak n))
