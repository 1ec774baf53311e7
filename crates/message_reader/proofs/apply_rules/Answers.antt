-- `message_reader::apply_rules` meets its contract: rules 5 and 6, which compare what stands behind the header.
use Prim.Native.Nat.{ℕ, ◌+◌}
use mathlib.Core.List.{List}
use mathlib.Core.Path.{◌≡◌, sym, ◌∙◌}
use native.Mathlib.Omega.{arith}
use lib.Dec.{eqb}
use lib.ListN.{get_or, take}
use lib.Seq.{get_or-drop}
use Rattle.checksum.specs.Checksum.{checksum_of}
use Rattle.message.specs.Bytes.{from_le16, header_length}
use Rattle.message.specs.Items.{len_in, payload_in, payload_checksum_in}
use Rattle.message.proofs.Buffer.{lent_from, tail}
use Rattle.message.proofs.Rules.{rule_5, rule_6}
use Rattle.message_reader.proofs.apply_rules.Goals as goal

-- what is compared behind the header
compared : (n : ℕ) (xs : List ℕ) → n ≡ len_in xs
    → eqb (from_le16 (get_or (lent_from header_length xs) n 0) (get_or (lent_from header_length xs) (n + 1) 0))
    (checksum_of (take n (lent_from header_length xs)))
    ≡ eqb (payload_checksum_in xs) (checksum_of (payload_in xs))
compared n xs count =
    let next : header_length + (n + 1) ≡ header_length + n + 1 = omega arith in
    rw (tail header_length xs, get_or-drop header_length xs n 0, get_or-drop header_length xs (n + 1) 0, next, count)

pub returns-then-not-payload_is_sound : goal.returns-then-not-payload_is_sound
returns-then-not-payload_is_sound c n =
    let a = c.args in
    c.found-then-not-payload_is_sound.ensures n
    ∙ sym
    (rule_5 n a.rest.now (omega arith)
    (sym c.header_is_sound-sound.ensures ∙ c.if-not-sound.false)
    (rw c.len_in-len.ensures.0 at (sym c.is_allowed-fine.ensures ∙ c.if-not-fine.false))
    (omega (arith, c.len_in-len.ensures.0, c.total_length-total.ensures))
    (sym (compared _ a.rest.now c.len_in-len.ensures.0) ∙ sym c.payload_is_sound.ensures
    ∙ c.if-not-payload_is_sound.true))

pub returns : goal.returns
returns c n =
    let a = c.args in
    c.found-2.ensures n
    ∙ rw (c.total_length-total.ensures, c.len_in-len.ensures.0)
    (sym
    (rule_6 n a.rest.now (omega arith)
    (sym c.header_is_sound-sound.ensures ∙ c.if-not-sound.false)
    (rw c.len_in-len.ensures.0 at (sym c.is_allowed-fine.ensures ∙ c.if-not-fine.false))
    (omega (arith, c.len_in-len.ensures.0, c.total_length-total.ensures))
    (sym (compared _ a.rest.now c.len_in-len.ensures.0) ∙ sym c.payload_is_sound.ensures
    ∙ c.if-not-payload_is_sound.false)))
