-- What document 01's bench examples 10 and 11 say of a frame, by computing the definitions, and SEQs at both ends of their range.
use Rattle.std.proofs.Common.{◌≡◌, true, false, refl}
use Rattle.link.specs.Frames.{Frame, first_sent, with_mark, due, may_go_again, sent_again, left}
use Rattle.link.specs.SequenceIds.{first_seq, seq_after}

-- a frame after its transmissions at 0, 1000 and 2000
abbrev once : Frame
once = first_sent first_seq 0

abbrev twice : Frame
twice = sent_again once 1000

abbrev thrice : Frame
thrice = sent_again twice 2000

pub record Examples : Type 0 where
  -- 10: polls "at 0, 0, 999, 1000, 2000, 3000: sent, quiet 1000, quiet 1, sent, sent, no acknowledgement"
  pub quiet_1000 : (due once 0 ≡ false) × (left once 0 ≡ 1000)
  pub quiet_1 : (due once 999 ≡ false) × (left once 999 ≡ 1)
  pub sent_at_1000 : (due once 1000 ≡ true) × (may_go_again once ≡ true)
  pub sent_at_2000 : (due twice 2000 ≡ true) × (may_go_again twice ≡ true)
  pub given_up_at_3000 : (due thrice 3000 ≡ true) × (may_go_again thrice ≡ false)
  -- 11: "Sent three times, NAK at 2005, poll at 2005: no acknowledgement"
  pub given_up_at_2005 : (due (with_mark thrice) 2005 ≡ true) × (may_go_again (with_mark thrice) ≡ false)
  -- "the next SEQ (starts 0, after 255 comes 0)"
  pub after_0 : seq_after 0 ≡ 1
  pub after_255 : seq_after 255 ≡ 0

pub examples : Examples
unfolding due may_go_again seq_after
examples = record {
  quiet_1000 = (refl, refl);
  quiet_1 = (refl, refl);
  sent_at_1000 = (refl, refl);
  sent_at_2000 = (refl, refl);
  given_up_at_3000 = (refl, refl);
  given_up_at_2005 = (refl, refl);
  after_0 = refl;
  after_255 = refl;
}
