-- The laws of the link, over the definitions and so over the promises of its functions: sequence IDs stay within a byte and differ
-- from one frame to the next, when a frame is due and what it waits till then, and what the repeat test finds.
use Rattle.std.proofs.Common.{◌≡◌, ℕ, suc, ◌+◌, ◌-◌, ◌%◌, ◌<◌, ◌≤◌, Bool, true, false, cond as if, ◌||◌, eqb, leb, ◌⊎◌, sym, refl, ap, ◌∙◌, inl, inr, true≢false, arith, ltb-false, ltb-true, eq-eqb, ne_eqb, eqb-true, le-leb, leb-false, leb-true}
use mathlib.Core.Bool.{or-true}
use mathlib.Core.Option.{none, some}
use borrow.Author.Tests.{lt-leb}
use Rattle.link.specs.Frames.{Frame, max_transmissions, resend_time, first_sent, with_mark, acknowledged_by, due, may_go_again, sent_again, deadline, left}
use Rattle.link.specs.Repeats.{Seen, none_seen, is_repeat, seen_after}
use Rattle.link.specs.SequenceIds.{first_seq, last_seq, seq_after}

-- "after 255 comes 0", and after every other SEQ the one above it
pub after_last : seq_after last_seq ≡ first_seq
unfolding seq_after
after_last = refl

pub after_other : (seq : ℕ) → (seq ≡ last_seq → ⊥) → seq_after seq ≡ suc seq
unfolding seq_after
after_other seq h = rw (ne_eqb seq last_seq h)

-- so the one after a byte is a byte: the sum modulo 256
choice : (seq : ℕ) (b : Bool) → eqb seq last_seq ≡ b → seq ≤ last_seq → if b first_seq (suc seq) ≡ (seq + 1) % 256
choice seq true h byte = omega (arith, eqb-true seq last_seq h)
choice seq false h byte = let other : (seq ≡ last_seq → ⊥) = λ e. true≢false (sym (eq-eqb seq last_seq e) ∙ h) in omega arith

pub after_wraps : (seq : ℕ) → seq ≤ last_seq → seq_after seq ≡ (seq + 1) % 256
unfolding seq_after
after_wraps seq byte = choice seq (eqb seq last_seq) refl byte

pub after_within : (seq : ℕ) → seq ≤ last_seq → seq_after seq ≤ last_seq
after_within seq byte = rw (after_wraps seq byte) (omega arith)

-- two frames one after the other have different SEQs
pub after_differs : (seq : ℕ) → seq ≤ last_seq → seq_after seq ≡ seq → ⊥
after_differs seq byte same = omega (arith, sym (after_wraps seq byte) ∙ same)

-- "clock minus last sent is at least 1,000 ms" as a sum: not before the deadline
since : (sent clock : ℕ) (b : Bool) → leb (sent + resend_time) clock ≡ b → leb resend_time (clock - sent) ≡ b
since sent clock true h = le-leb resend_time (clock - sent) (omega (arith, leb-true (sent + resend_time) clock h))
since sent clock false h = lt-leb resend_time (clock - sent) (omega (arith, leb-false (sent + resend_time) clock h))

pub due_by_deadline : (f : Frame) (clock : ℕ) → due f clock ≡ (f.marked || leb (deadline f) clock)
unfolding due
due_by_deadline f clock = ap (λ (b : Bool). f.marked || b) (since f.sent clock (leb (deadline f) clock) refl)

-- what makes a frame due
pub due_marked : (f : Frame) (clock : ℕ) → f.marked ≡ true → due f clock ≡ true
unfolding due
due_marked f clock h = rw h

pub due_late : (f : Frame) (clock : ℕ) → deadline f ≤ clock → due f clock ≡ true
due_late f clock h = due_by_deadline f clock ∙ rw (le-leb (deadline f) clock h, or-true f.marked)

pub due_early : (f : Frame) (clock : ℕ) → f.marked ≡ false → clock < deadline f → due f clock ≡ false
due_early f clock mark h = due_by_deadline f clock ∙ rw (mark, lt-leb (deadline f) clock h)

-- and what is known of one that is due, or not due
pub record Waits (f : Frame) (clock : ℕ) : Type 0 where
  pub unmarked : f.marked ≡ false
  pub early : clock < deadline f

either : (mark late : Bool) → (mark || late) ≡ true → (mark ≡ true) ⊎ (late ≡ true)
either true late h = inl refl
either false late h = inr h

neither : (mark late : Bool) → (mark || late) ≡ false → (mark ≡ false) × (late ≡ false)
neither true late h = absurd (true≢false h)
neither false late h = (refl, h)

pub due_why : (f : Frame) (clock : ℕ) → due f clock ≡ true → (f.marked ≡ true) ⊎ (deadline f ≤ clock)
due_why f clock h = late f clock (either f.marked (leb (deadline f) clock) (sym (due_by_deadline f clock) ∙ h))
  where
    late : (f : Frame) (clock : ℕ) → (f.marked ≡ true) ⊎ (leb (deadline f) clock ≡ true) → (f.marked ≡ true) ⊎ (deadline f ≤ clock)
    late f clock (inl mark) = inl mark
    late f clock (inr past) = inr (leb-true (deadline f) clock past)

pub not_due : (f : Frame) (clock : ℕ) → due f clock ≡ false → Waits f clock
not_due f clock h =
    let no = neither f.marked (leb (deadline f) clock) (sym (due_by_deadline f clock) ∙ h) in
    record { unmarked = no.0; early = leb-false (deadline f) clock no.1 }

-- a frame that has just gone out is not due
pub first_not_due : (seq clock : ℕ) → due (first_sent seq clock) clock ≡ false
first_not_due seq clock = due_early (first_sent seq clock) clock refl (omega arith)

pub again_not_due : (f : Frame) (clock : ℕ) → due (sent_again f clock) clock ≡ false
again_not_due f clock = due_early (sent_again f clock) clock refl (omega arith)

-- "sent again, the same bytes": its SEQ stays, and a NAK leaves it too
pub again_same_seq : (f : Frame) (clock : ℕ) → (sent_again f clock).seq ≡ f.seq
again_same_seq f clock = refl

pub mark_same_seq : (f : Frame) → (with_mark f).seq ≡ f.seq
mark_same_seq f = refl

-- a NAK makes it due at once
pub mark_due : (f : Frame) (clock : ℕ) → due (with_mark f) clock ≡ true
mark_due f clock = due_marked (with_mark f) clock refl

-- the time left: an unmarked frame is due when it is over and not before; from its transmission on it is at most 1,000 ms
pub left_due : (f : Frame) (clock : ℕ) → due f (clock + left f clock) ≡ true
left_due f clock = due_late f (clock + left f clock) (omega arith)

pub left_not_due : (f : Frame) (clock k : ℕ) → f.marked ≡ false → k < left f clock → due f (clock + k) ≡ false
left_not_due f clock k mark h = due_early f (clock + k) mark (omega arith)

pub left_short : (f : Frame) (clock : ℕ) → f.sent ≤ clock → left f clock ≤ resend_time
left_short f clock h = omega arith

pub left_some : (f : Frame) (clock : ℕ) → due f clock ≡ false → 0 < left f clock
left_some f clock h = let w = not_due f clock h in omega arith

-- "fewer than 3 transmissions"
pub may_go_again_law : (f : Frame) → may_go_again f ≡ true → f.transmissions < max_transmissions
unfolding may_go_again
may_go_again_law f h = ltb-true f.transmissions max_transmissions h

pub may_not_go_again : (f : Frame) → may_go_again f ≡ false → max_transmissions ≤ f.transmissions
unfolding may_go_again
may_not_go_again f h = ltb-false f.transmissions max_transmissions h

-- an ACK is for the frame with its SEQ, and for no other
pub acknowledges : (f : Frame) (seq : ℕ) → acknowledged_by f seq ≡ true → f.seq ≡ seq
acknowledges f seq h = eqb-true f.seq seq h

pub older_not : (f : Frame) (seq : ℕ) → (f.seq ≡ seq → ⊥) → acknowledged_by f seq ≡ false
older_not f seq h = ne_eqb f.seq seq h

-- the repeat test: "none at first", then the same SEQ again is a repeat, and the next one is not
pub first_no_repeat : (seq : ℕ) → is_repeat none_seen seq ≡ false
unfolding is_repeat
first_no_repeat seq = refl

pub again_repeats : (seen : Seen) (seq : ℕ) → is_repeat (seen_after seen seq) seq ≡ true
unfolding is_repeat seen_after
again_repeats seen seq = eq-eqb seq seq refl

pub next_no_repeat : (seen : Seen) (seq : ℕ) → seq ≤ last_seq → is_repeat (seen_after seen seq) (seq_after seq) ≡ false
unfolding is_repeat seen_after
next_no_repeat seen seq byte = ne_eqb seq (seq_after seq) (λ same. after_differs seq byte (sym same))

-- a repeat leaves what is remembered
pub repeat_leaves : (seen : Seen) (seq : ℕ) → is_repeat seen seq ≡ true → seen_after seen seq ≡ seen
unfolding is_repeat seen_after
repeat_leaves none seq h = absurd (true≢false (sym h))
repeat_leaves (some last) seq h = ap some (sym (eqb-true last seq h))
